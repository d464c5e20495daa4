mod MadeLaws
mod NumberLaws
mod SealedSteps
