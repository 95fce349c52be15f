pub mod ScriptFacts
