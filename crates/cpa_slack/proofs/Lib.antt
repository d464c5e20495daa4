pub mod SlackLaws
pub mod OneSlackLaws
