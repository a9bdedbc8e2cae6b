pub mod Heuristics
