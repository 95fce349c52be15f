-- What a contract sees of a line.
use Rattle.script_play.specs.declared.lines.Line.{Line}
use Rattle.script_play.specs.Lines.{Numbered}

abbrev pub numbered : Line → Numbered
numbered line = record { number = line.number; text = line.text.now }
