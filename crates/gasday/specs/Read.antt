-- What has been read of a text as the code keeps it, and what it answers at the end.
use Rattle.std.specs.Prelude.{◌≡◌, ℕ, Result, Ok, Err, Vec}
use Rattle.gasday.specs.declared.volumes.Unread.{Unread}
use Rattle.gasday.specs.declared.volumes.Unread.TheVariants.{Line, OutOfMemory}
use Rattle.gasday.specs.declared.volumes.Volumes.{Volumes}
use Rattle.gasday.specs.Text.{Reading, reading, Given, given, faulty}

abbrev pub read_of : {A : Type 0} → Volumes A → Reading
read_of v = reading v.whole.items v.line

-- where memory runs out, nothing is said
abbrev pub Answers : {A : Type 0} → Given → Result (Vec ℕ A) Unread → Type 0
Answers g (Ok volumes) = g ≡ given volumes.items
Answers g (Err (Line n fault)) = g ≡ faulty n fault
Answers g (Err OutOfMemory) = Unit {0}
