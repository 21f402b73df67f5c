pub mod ForemostLemmas
