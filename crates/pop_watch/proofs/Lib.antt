mod Counted
mod UpToLast
mod LayerSteps
mod Vectors
