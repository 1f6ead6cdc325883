pub mod AdtLayers
pub mod StandingTypes
pub mod Fits
pub mod Drops
pub mod Measured
pub mod TypeMeasures
pub mod GoalUses
pub mod Words
