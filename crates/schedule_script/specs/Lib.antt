pub mod ScriptText
