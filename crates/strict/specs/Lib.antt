pub mod Digits
pub mod Grammar
pub mod Matcher
pub mod Canonical
pub mod Level
pub mod LevelMatcher
