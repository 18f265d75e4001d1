pub mod Sinks
pub mod SinkCubes
pub mod SinkPlaces
pub mod KeptPlaces
pub mod Laws
