mod OtherDemands
mod Exclusions
mod LaterPlaces
mod Trying
mod RightVerdict
