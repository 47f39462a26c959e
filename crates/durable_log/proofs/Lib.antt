mod Fronts
mod MachineLaws
mod Recoveries
mod RunSteps
mod Stops
