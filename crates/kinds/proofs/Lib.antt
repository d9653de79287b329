pub mod EngineFacts
