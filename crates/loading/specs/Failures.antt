-- What a header and a script that can't be read are refused for. Assumes nothing: these are definitions.
use Rattle.base.specs.declared.Refusal.TheVariants.{Token as BadToken}
use Rattle.lines.specs.declared.words.ReadError.{ReadError}
use Rattle.lines.specs.declared.words.ReadError.TheVariants.{Memory as NoMemory, At}
use Rattle.loading.specs.declared.load.Failure.{Failure}
use Rattle.loading.specs.declared.load.Failure.TheVariants.{Memory, Header, Script}

-- a header is refused at the first word that does not fit
abbrev pub in_header : ReadError → Failure
in_header NoMemory = Memory
in_header (At p) = Header (BadToken p)

-- and so is a script
abbrev pub in_script : ReadError → Failure
in_script NoMemory = Memory
in_script (At p) = Script (BadToken p)
