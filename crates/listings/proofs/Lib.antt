pub mod Laying
pub mod Answered
