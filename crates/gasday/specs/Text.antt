-- A text with one volume a line, read byte by byte.
use Rattle.std.specs.Prelude.{Bool, ◌&&◌, ◌||◌, cond, List, [], ◌∷◌, ◌++◌, ℕ, ◌+◌, ◌-◌, ◌*◌, ◌^◌, eqb, ltb, length, Option, None, Some, Result, Ok, Err, ◌≡◌}
use Rattle.gasday.specs.declared.volumes.Line.{Line}
use Rattle.gasday.specs.declared.volumes.Line.TheVariants.{Begun, Number, Returned}
use Rattle.gasday.specs.declared.volumes.Fault.{Fault}
use Rattle.gasday.specs.declared.volumes.Fault.TheVariants.{Empty, NoDigit, TooLarge}
use Rattle.gasday.specs.declared.volumes.Unread.{Unread}
use Rattle.gasday.specs.declared.volumes.Unread.TheVariants as unread
use Rattle.gasday.specs.declared.volumes.Step.{Step}
use Rattle.gasday.specs.declared.volumes.Step.TheVariants.{Longer, Whole}

abbrev pub line_feed : ℕ
line_feed = 10

abbrev pub carriage_return : ℕ
carriage_return = 13

-- the digits are the bytes 48 to 57
abbrev pub zero_digit : ℕ
zero_digit = 48

abbrev pub is_digit : ℕ → Bool
is_digit b = ltb 47 b && ltb b 58

-- a number with one digit more, and the line that it makes: numbers have 64 bits
abbrev pub with_digit : ℕ → ℕ → ℕ
with_digit n b = n * 10 + (b - zero_digit)

abbrev pub longer : ℕ → Result Line Fault
longer n = cond (ltb n (2 ^ 64)) (Ok (Number n)) (Err TooLarge)

-- what a byte makes of a line: a longer line, or the volume of a whole one; or what is wrong with it
abbrev pub stepped : Result Line Fault → Result Step Fault
stepped (Ok line) = Ok (Longer line)
stepped (Err fault) = Err fault

abbrev pub step_of : Line → ℕ → Result Step Fault
step_of Begun b =
    cond (eqb b line_feed || eqb b carriage_return) (Err Empty)
    (cond (is_digit b) (Ok (Longer (Number (b - zero_digit)))) (Err (NoDigit b)))
step_of (Number n) b =
    cond (is_digit b) (stepped (longer (with_digit n b)))
    (cond (eqb b carriage_return) (Ok (Longer (Returned n)))
    (cond (eqb b line_feed) (Ok (Whole n)) (Err (NoDigit b))))
step_of (Returned n) b = cond (eqb b line_feed) (Ok (Whole n)) (Err (NoDigit carriage_return))

-- what has been read of a text: the volumes of its whole lines, and the line that has not ended; or the number of a line, and what is
-- wrong with it
pub data Reading : Type 0 where
  reading : List ℕ → Line → Reading
  wrong : ℕ → Fault → Reading

-- the number of the line that has not ended
abbrev pub line_number : List ℕ → ℕ
line_number volumes = length volumes + 1

abbrev pub with_step : List ℕ → Result Step Fault → Reading
with_step volumes (Ok (Longer line)) = reading volumes line
with_step volumes (Ok (Whole volume)) = reading (volumes ++ volume ∷ []) Begun
with_step volumes (Err fault) = wrong (line_number volumes) fault

-- with a byte more, and with bytes more
abbrev pub with_byte : Reading → ℕ → Reading
with_byte (reading volumes line) b = with_step volumes (step_of line b)
with_byte (wrong n fault) b = wrong n fault

unfoldable pub with_bytes : Reading → List ℕ → Reading
with_bytes r [] = r
with_bytes r (b ∷ bs) = with_bytes (with_byte r b) bs

-- what taking bytes answers, with what has been read afterwards. Where memory runs out, nothing is said
abbrev pub Gives : Reading → Result Unit Unread → Reading → Type 0
Gives r (Ok _) left = left ≡ r
Gives r (Err (unread.Line n fault)) left = r ≡ wrong n fault
Gives r (Err unread.OutOfMemory) left = Unit {0}

-- the volumes, where the text ends: its last line may have no line feed
abbrev pub at_end_of : Line → Result (Option ℕ) Fault
at_end_of Begun = Ok None
at_end_of (Number n) = Ok (Some n)
at_end_of (Returned n) = Err (NoDigit carriage_return)

-- the volumes of a text that ends, or the number of a line and what is wrong with it
pub data Given : Type 0 where
  given : List ℕ → Given
  faulty : ℕ → Fault → Given

abbrev pub with_last : List ℕ → Result (Option ℕ) Fault → Given
with_last volumes (Ok None) = given volumes
with_last volumes (Ok (Some volume)) = given (volumes ++ volume ∷ [])
with_last volumes (Err fault) = faulty (line_number volumes) fault

abbrev pub ended : Reading → Given
ended (reading volumes line) = with_last volumes (at_end_of line)
ended (wrong n fault) = faulty n fault

abbrev pub volumes_of : List ℕ → Given
volumes_of text = ended (with_bytes (reading [] Begun) text)
