-- How a fault is printed: the word, the line and the cause's number.
use Rattle.std.specs.Prelude.{ℕ, List, ◌∷◌, ◌++◌, codes, decimal}
use Rattle.scripts.specs.declared.fault.Fault.{Fault}
use Rattle.scripts.specs.Causes.{cause_number}

abbrev pub fault_text : Fault → List ℕ
fault_text f = codes "fault " ++ (decimal f.line ++ (32 ∷ decimal (cause_number f.cause)))
