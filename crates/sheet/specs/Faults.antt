-- The number of each fault of a sheet, with the section and the place.
use Rattle.std.specs.Prelude.{ℕ, List, [], ◌∷◌, Ok, Err, Result}
use Rattle.algebra.specs.Refusals.{accepted}
use Rattle.sheet.specs.declared.fault.NumberFault.{NumberFault}
use Rattle.sheet.specs.declared.fault.NumberFault.TheVariants.{Cut, Count, Value}
use Rattle.sheet.specs.declared.fault.SheetFault.{SheetFault}
use Rattle.sheet.specs.declared.fault.SheetFault.TheVariants.{Frame, Sums, Job}

-- a fault of an item in a section
abbrev pub item_answer : ℕ → NumberFault → ℕ × List ℕ
item_answer section (Cut place) = (12, section ∷ place ∷ [])
item_answer section (Count place) = (13, section ∷ place ∷ [])
item_answer section (Value place) = (14, section ∷ place ∷ [])

abbrev pub fault_answer : SheetFault → ℕ × List ℕ
fault_answer (Frame f) = item_answer 1 f.0
fault_answer (Sums f) = item_answer 2 f.0
fault_answer (Job f) = item_answer 3 f.0

-- what reading told
abbrev pub sheet_reply : {T : Type 0} → Result T SheetFault → ℕ × List ℕ
sheet_reply (Ok _) = accepted
sheet_reply (Err e) = fault_answer e
