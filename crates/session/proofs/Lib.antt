mod Came
mod EngineLaws
