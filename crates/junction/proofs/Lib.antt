mod Right
mod Shared
