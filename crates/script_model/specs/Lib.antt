pub mod Lines
pub mod Script
pub mod ScriptRules
pub mod Reports
