-- What is proved of the machine's definitions.
-- laws of steps
pub mod StepLaws
-- each step's arm
pub mod StepArms
pub mod Keeps
