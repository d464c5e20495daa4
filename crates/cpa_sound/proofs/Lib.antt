pub mod Serving
pub mod Turns
pub mod KeepsLaws
pub mod CoursesHold
pub mod CourseLaws
pub mod DistanceLaws
pub mod LevelLaws
pub mod BusyLaws
pub mod WindowFacts
pub mod PriorityLaws
pub mod CanLaws
pub mod FifoLaws
pub mod RingLaws
pub mod TurnLaws
pub mod SlotLaws
pub mod OutputLaws
pub mod Parts
pub mod PartLaws
pub mod StreamLaws
pub mod KeepsCauses
pub mod CauseStreams
pub mod SteadyLaws
pub mod SentLaws
pub mod Timed
pub mod TimedLaws
pub mod OwnWindows
pub mod MomentLaws
pub mod AnchorLaws
pub mod LocalBounds
pub mod CausalLaws
pub mod TimedCausal
pub mod RuleLaws
pub mod JobLaws
pub mod RunLaws
pub mod CauseNumbers
pub mod CauseRuns
pub mod ArrivalLaws
pub mod StepLaws
pub mod ChoiceLaws
pub mod RingRuns
pub mod KindRuns
pub mod SlotRuns
pub mod FieldLaws
pub mod QueueRuns
mod Sections
mod UrgencyLaws
mod OneHolder
mod HadLaws
mod Holding
mod LostTicks
mod LockWindow
mod SectionLaws
mod CeilingRuns
mod Exclusion
pub mod PathLaws
pub mod ClockRuns
pub mod Soundness
mod CauseInstants
pub mod BeyondLaws
mod WorkedCases
mod WorkedClocks
mod WorkedLocks
