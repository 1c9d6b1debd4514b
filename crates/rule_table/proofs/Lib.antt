pub mod OneStep
