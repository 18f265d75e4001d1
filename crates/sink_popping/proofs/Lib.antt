pub mod SinkCubesLemmas
mod GatheredSinks
mod SinkRows
mod PlacesKept
pub mod OneDirection
