mod ImageFaults
mod StepFaults
pub mod BuildFaults
