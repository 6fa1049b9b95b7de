-- The texts that give volumes are those with lines of decimal digits.
use mathlib.Core.Path.{◌≡◌, refl, sym, ap, subst, ◌∙◌}
use mathlib.Core.Bool.{true, false}
use mathlib.Core.List.{List, [], ◌∷◌, ◌++◌}
use mathlib.Core.Logic.{⊎_elim}
use Prim.Native.Nat.{ℕ, ◌-◌, ◌<◌, ◌≤◌, ◌^◌}
use native.Mathlib.Omega.{arith}
use lib.Dec.{eqb}
use Rattle.std.specs.Prelude.{Option, None, Some, Result, Ok, Err, ◌||◌}
use Rattle.std.proofs.lemmas.List.{append-nil, append_assoc}
use Rattle.std.proofs.lemmas.Bool.{le-ltb, lt-ltb, eqb-true, cases_Bool, cases_lt}
use Rattle.gasday.specs.declared.volumes.Line.{Line}
use Rattle.gasday.specs.declared.volumes.Line.TheVariants.{Begun, Number, Returned}
use Rattle.gasday.specs.declared.volumes.Fault.{Fault}
use Rattle.gasday.specs.declared.volumes.Fault.TheVariants.{Empty, NoDigit, TooLarge}
use Rattle.gasday.specs.declared.volumes.Step.{Step}
use Rattle.gasday.specs.declared.volumes.Step.TheVariants.{Longer, Whole}
use Rattle.gasday.specs.Text.{line_feed, carriage_return, zero_digit, is_digit, with_digit, step_of, Reading, reading, wrong, with_step, with_byte, with_bytes, given, faulty, ended}
use Rattle.gasday.specs.Lines.{Lines, no_more, last, first_digit, digit, feed, return_feed, LinesGiveVolumes, VolumesAreOfLines, PartsMakeNoDifference}
use Rattle.gasday.proofs.Readings.{stays_wrong}

pub parts_make_no_difference : PartsMakeNoDifference
unfolding with_bytes
parts_make_no_difference r [] cs = refl
parts_make_no_difference r (b ∷ bs) cs = parts_make_no_difference (with_byte r b) bs cs

-- the state of the line where a text goes on
abbrev line_at : Option ℕ → Line
line_at None = Begun
line_at (Some n) = Number n

-- the steps of a line
begins : (b : ℕ) → is_digit b ≡ true → step_of Begun b ≡ Ok (Longer (Number (b - zero_digit)))
begins b e = grind arith

goes_on : (n b : ℕ) → is_digit b ≡ true → with_digit n b < 2 ^ 64 → step_of (Number n) b ≡ Ok (Longer (Number (with_digit n b)))
goes_on n b e l = rw (e, lt-ltb (with_digit n b) (2 ^ 64) l)

-- from a line on
abbrev Goes : Option ℕ → List ℕ → List ℕ → Type 0
Goes at bs vs = (ws : List ℕ) → ended (with_bytes (reading ws (line_at at)) bs) ≡ given (ws ++ vs)

read_on : (at : Option ℕ) (bs vs : List ℕ) → Lines at bs vs → Goes at bs vs
unfolding with_bytes
read_on at bs vs no_more ws = ap given (sym (append-nil ws))
read_on at bs vs (last n) ws = refl
read_on at bs vs (first_digit b cs us e d) ws = rw (begins b e) (read_on (Some (b - zero_digit)) cs us d ws)
read_on at bs vs (digit n b cs us e l d) ws = rw (goes_on n b e l) (read_on (Some (with_digit n b)) cs us d ws)
read_on at bs vs (feed n cs us d) ws = read_on None cs us d (ws ++ n ∷ []) ∙ ap given (append_assoc ws (n ∷ []) us)
read_on at bs vs (return_feed n cs us d) ws = read_on None cs us d (ws ++ n ∷ []) ∙ ap given (append_assoc ws (n ∷ []) us)

pub lines_give_volumes : LinesGiveVolumes
lines_give_volumes text volumes d = read_on None text volumes d []

-- what a text that gives volumes has from a line on
abbrev LinesAt : Line → List ℕ → List ℕ → Type 0
LinesAt Begun bs vs = Lines None bs vs
LinesAt (Number n) bs vs = Lines (Some n) bs vs
LinesAt (Returned n) bs vs = (rest : List ℕ) × (us : List ℕ) × (bs ≡ line_feed ∷ rest) × (vs ≡ n ∷ us) × Lines None rest us

record Found (line : Line) (bs ws out : List ℕ) : Type 0 where
  volumes : List ℕ
  whole : out ≡ ws ++ volumes
  lines : LinesAt line bs volumes

abbrev GivesOut : Reading → List ℕ → List ℕ → Type 0
GivesOut r bs out = ended (with_bytes r bs) ≡ given out

abbrev Finds : List ℕ → Type 0
Finds bs = (line : Line) (ws out : List ℕ) → GivesOut (reading ws line) bs out → Found line bs ws out

never : (n : ℕ) (fault : Fault) (bs out : List ℕ) → GivesOut (wrong n fault) bs out → ⊥
never n fault bs out e = let f : faulty n fault ≡ given out = sym (ap ended (stays_wrong n fault bs)) ∙ e in cc

-- where the step of a line is known
stepping : (ws : List ℕ) (line : Line) (b : ℕ) (bs out : List ℕ) (s : Result Step Fault) → step_of line b ≡ s → GivesOut (reading ws line) (b ∷ bs) out →
    GivesOut (with_step ws s) bs out
unfolding with_bytes
stepping ws line b bs out s e g = sym (ap (λ (t : Result Step Fault). ended (with_bytes (with_step ws t) bs)) e) ∙ g

-- the end of a line
fed : (n b : ℕ) (bs us : List ℕ) → b ≡ line_feed → Lines None bs us → Lines (Some n) (b ∷ bs) (n ∷ us)
fed n b bs us e l = rw e (feed n bs us l)

returned : (n b : ℕ) (bs rest us : List ℕ) → b ≡ carriage_return → bs ≡ line_feed ∷ rest → Lines None rest us → Lines (Some n) (b ∷ bs) (n ∷ us)
returned n b bs rest us e f l = rw (e, f) (return_feed n rest us l)

-- a volume more
whole_line : (n : ℕ) (ws out vs : List ℕ) → out ≡ (ws ++ n ∷ []) ++ vs → out ≡ ws ++ n ∷ vs
whole_line n ws out vs e = e ∙ append_assoc ws (n ∷ []) vs

module _ (b : ℕ) (bs : List ℕ) (rec : Finds bs) (ws out : List ℕ) where
  from_begun : GivesOut (reading ws Begun) (b ∷ bs) out → Found Begun (b ∷ bs) ws out
  from_begun g = ⊎_elim yes no (cases_Bool (is_digit b))
    where
      yes : is_digit b ≡ true → Found Begun (b ∷ bs) ws out
      yes e =
          let f = rec (Number (b - zero_digit)) ws out (stepping ws Begun b bs out _ (begins b e) g) in
          record { volumes = f.volumes; whole = f.whole; lines = first_digit b bs f.volumes e f.lines }

      no : is_digit b ≡ false → Found Begun (b ∷ bs) ws out
      no e = ⊎_elim empty other (cases_Bool (eqb b line_feed || eqb b carriage_return))
        where
          empty : (eqb b line_feed || eqb b carriage_return) ≡ true → Found Begun (b ∷ bs) ws out
          empty h = absurd (never _ _ bs out (stepping ws Begun b bs out (Err Empty) (rw h refl) g))

          other : (eqb b line_feed || eqb b carriage_return) ≡ false → Found Begun (b ∷ bs) ws out
          other h = absurd (never _ _ bs out (stepping ws Begun b bs out (Err (NoDigit b)) (rw (h, e) refl) g))

  from_number : (n : ℕ) → GivesOut (reading ws (Number n)) (b ∷ bs) out → Found (Number n) (b ∷ bs) ws out
  from_number n g = ⊎_elim yes no (cases_Bool (is_digit b))
    where
      yes : is_digit b ≡ true → Found (Number n) (b ∷ bs) ws out
      yes e = ⊎_elim fits large (cases_lt (with_digit n b) (2 ^ 64))
        where
          fits : with_digit n b < 2 ^ 64 → Found (Number n) (b ∷ bs) ws out
          fits l =
              let f = rec (Number (with_digit n b)) ws out (stepping ws (Number n) b bs out _ (goes_on n b e l) g) in
              record { volumes = f.volumes; whole = f.whole; lines = digit n b bs f.volumes e l f.lines }

          large : 2 ^ 64 ≤ with_digit n b → Found (Number n) (b ∷ bs) ws out
          large l = absurd (never _ _ bs out (stepping ws (Number n) b bs out (Err TooLarge) (rw (e, le-ltb (with_digit n b) (2 ^ 64) l) refl) g))

      no : is_digit b ≡ false → Found (Number n) (b ∷ bs) ws out
      no e = ⊎_elim returns others (cases_Bool (eqb b carriage_return))
        where
          returns : eqb b carriage_return ≡ true → Found (Number n) (b ∷ bs) ws out
          returns h =
              let f = rec (Returned n) ws out (stepping ws (Number n) b bs out (Ok (Longer (Returned n))) (rw (e, h) refl) g) in
              record {
                volumes = n ∷ f.lines.1;
                whole = f.whole ∙ ap (λ (vs : List ℕ). ws ++ vs) f.lines.3;
                lines = returned n b bs f.lines.0 f.lines.1 (eqb-true b carriage_return h) f.lines.2 f.lines.4;
              }

          others : eqb b carriage_return ≡ false → Found (Number n) (b ∷ bs) ws out
          others h = ⊎_elim feeds none (cases_Bool (eqb b line_feed))
            where
              feeds : eqb b line_feed ≡ true → Found (Number n) (b ∷ bs) ws out
              feeds k =
                  let f = rec Begun (ws ++ n ∷ []) out (stepping ws (Number n) b bs out (Ok (Whole n)) (rw (e, h, k) refl) g) in
                  record {
                    volumes = n ∷ f.volumes;
                    whole = whole_line n ws out f.volumes f.whole;
                    lines = fed n b bs f.volumes (eqb-true b line_feed k) f.lines;
                  }

              none : eqb b line_feed ≡ false → Found (Number n) (b ∷ bs) ws out
              none k = absurd (never _ _ bs out (stepping ws (Number n) b bs out (Err (NoDigit b)) (rw (e, h, k) refl) g))

  from_returned : (n : ℕ) → GivesOut (reading ws (Returned n)) (b ∷ bs) out → Found (Returned n) (b ∷ bs) ws out
  from_returned n g = ⊎_elim feeds none (cases_Bool (eqb b line_feed))
    where
      feeds : eqb b line_feed ≡ true → Found (Returned n) (b ∷ bs) ws out
      feeds k =
          let f = rec Begun (ws ++ n ∷ []) out (stepping ws (Returned n) b bs out (Ok (Whole n)) (rw k refl) g) in
          record {
            volumes = n ∷ f.volumes;
            whole = whole_line n ws out f.volumes f.whole;
            lines = (bs, f.volumes, ap (λ (x : ℕ). x ∷ bs) (eqb-true b line_feed k), refl, f.lines);
          }

      none : eqb b line_feed ≡ false → Found (Returned n) (b ∷ bs) ws out
      none k = absurd (never _ _ bs out (stepping ws (Returned n) b bs out (Err (NoDigit carriage_return)) (rw k refl) g))

found : (bs : List ℕ) → Finds bs
unfolding with_bytes
found [] Begun ws out g = record { volumes = []; whole = let h : ws ≡ out = cc in sym h ∙ sym (append-nil ws); lines = no_more }
found [] (Number n) ws out g = record { volumes = n ∷ []; whole = let h : ws ++ n ∷ [] ≡ out = cc in sym h; lines = last n }
found [] (Returned n) ws out g = absurd cc
found (b ∷ bs) Begun ws out g = from_begun b bs (found bs) ws out g
found (b ∷ bs) (Number n) ws out g = from_number b bs (found bs) ws out n g
found (b ∷ bs) (Returned n) ws out g = from_returned b bs (found bs) ws out n g

pub volumes_are_of_lines : VolumesAreOfLines
volumes_are_of_lines text volumes g =
    let f = found text Begun [] volumes g in
    subst (λ (vs : List ℕ). Lines None text vs) (sym f.whole) f.lines
