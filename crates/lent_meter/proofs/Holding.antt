-- Rows that hold a stream, and words that hold a meter.
use mathlib.Core.Path.{◌≡◌, refl, sym, ap, subst, ◌∙◌}
use mathlib.Core.Bool.{Bool, true, false, ◌&&◌}
use mathlib.Core.List.{List, [], ◌∷◌, map}
use Prim.Native.Nat.{ℕ, zero, suc, ◌+◌, ◌-◌, ◌<◌}
use native.Mathlib.Nat.{not-suc-le-zero, le_of_suc-le-suc}
use native.Mathlib.Omega.{arith}
use borrow.Author.Tests.{eqb-true, eqb-false}
use lib.Dec.{eqb}
use lib.ListN.{length, get_or, drop, replicate, drop_of_length-le}
use lib.Seq.{drop-cons}
use Rattle.std.proofs.lemmas.Bool.{and_parts}
use Rattle.std.specs.Prelude.{Option, Some, None}
use Rattle.meter.specs.declared.Gas.{Gas}
use Rattle.meter.specs.declared.StreamTotals.{StreamTotals}
use Rattle.meter.specs.declared.Stream.{Stream}
use Rattle.meter.specs.State.{fresh_stream, SoundTotals, SoundGas, SoundAnalysis, SoundStream}
use Rattle.meter.proofs.Kept.{fresh_stream_is_sound}
use Rattle.lent_meter.specs.Words.{row_length, packed_totals, analysis_words, packed_stream, gas_in, totals_in}
use Rattle.lent_meter.specs.Lent.{LentRow, EachLent, Lent}
use Rattle.lent_meter.proofs.Outcomes.{lent_row}
use Rattle.lent_meter.specs.Check.{Tells}

-- the elements of a list from the place i on
abbrev elements : ℕ → ℕ → List ℕ → List ℕ
elements i zero l = []
elements i (suc n) l = get_or l i 0 ∷ elements (suc i) n l

dropped : (i n : ℕ) (l : List ℕ) → length l ≡ i + n → drop i l ≡ elements i n l
dropped i zero l e = drop_of_length-le l {i = i} (omega arith)
dropped i (suc n) l e = drop-cons l i 0 (omega arith) ∙ ap (λ (r : List ℕ). get_or l i 0 ∷ r) (dropped (suc i) n l (omega arith))

-- with no analysis every word is 0, and with one the first word is 1
blank : (a : Option Gas) (t : StreamTotals) → SoundAnalysis a t → (get_or (analysis_words a (packed_totals t)) 0 0 ≡ 1 → ⊥) →
    analysis_words a (packed_totals t) ≡ replicate row_length 0
blank None t h none = ap (analysis_words None) (ap packed_totals h)
blank (Some gas) t h none = elim (none refl) [ ]

-- the parts of a stream with an analysis
record Parts (row : List ℕ) : Type 0 where
  pub gas : SoundGas (gas_in row)
  pub totals : SoundTotals (totals_in row)

parts : (a : Option Gas) (t : StreamTotals) → SoundAnalysis a t → SoundTotals t → get_or (analysis_words a (packed_totals t)) 0 0 ≡ 1 → Parts (analysis_words a (packed_totals t))
parts None t h sound one = let f : ⊥ = omega arith in elim f [ ]
parts (Some gas) t h sound one = record { gas = record { pair = h.pair; properties = h.properties; air = h.air }; totals = sound }

module _ (row : List ℕ) where
  pub blank_holds : row ≡ replicate row_length 0 → LentRow row
  blank_holds e = record { stream = fresh_stream; sound = fresh_stream_is_sound; holds = e }

  -- a row with 1 in its first word
  analysed_holds : length row ≡ row_length → get_or row 0 0 ≡ 1 → Parts row → LentRow row
  analysed_holds long one p =
      record {
        stream = record { analysis = Some (gas_in row); totals = totals_in row };
        sound = record { analysis = p.gas; totals = p.totals };
        holds = dropped 0 row_length row long ∙ ap (λ (w : ℕ). w ∷ elements 1 (row_length - 1) row) one;
      }

  lent_parts : get_or row 0 0 ≡ 1 → LentRow row → Parts row
  lent_parts one l =
      let s = l.stream in
      subst Parts (sym l.holds) (parts s.analysis s.totals l.sound.analysis l.sound.totals (sym (ap (λ (r : List ℕ). get_or r 0 0) l.holds) ∙ one))

  lent_blank : (get_or row 0 0 ≡ 1 → ⊥) → LentRow row → row ≡ replicate row_length 0
  lent_blank none l =
      let s = l.stream in
      l.holds ∙ blank s.analysis s.totals l.sound.analysis (λ one. none (ap (λ (r : List ℕ). get_or r 0 0) l.holds ∙ one))

  -- a row that is not 0 everywhere, from the tests of its parts
  pub row_holds : length row ≡ row_length → (row ≡ replicate row_length 0 → ⊥) → {gas totals : Bool} → Tells gas (SoundGas (gas_in row)) → Tells totals (SoundTotals (totals_in row)) →
      Tells (eqb (get_or row 0 0) 1 && gas && totals) (LentRow row)
  row_holds long some {gas} {totals} g t =
      record {
        only = λ y.
            let z = and_parts _ _ y in
            let f = and_parts _ _ z.0 in
            analysed_holds long (eqb-true _ _ f.0) (record { gas = g.only f.1; totals = t.only z.1 });
        always = λ l. go l (eqb (get_or row 0 0) 1) refl;
      }
    where
      go : LentRow row → (b : Bool) → eqb (get_or row 0 0) 1 ≡ b → (eqb (get_or row 0 0) 1 && gas && totals) ≡ true
      go l true e =
          let q = lent_parts (eqb-true _ _ e) l in
          rw (e, g.always q.gas, t.always q.totals)
      go l false e = elim (some (lent_blank (eqb-false _ _ e) l)) [ ]

-- rows that hold a stream each hold a meter together
first_of : (row : List ℕ) (rows : List (List ℕ)) → EachLent (row ∷ rows) → LentRow row
first_of row rows h = h 0 (omega arith)

others_of : (row : List ℕ) (rows : List (List ℕ)) → EachLent (row ∷ rows) → EachLent rows
others_of row rows h k l = h (suc k) (omega arith)

streams : (rows : List (List ℕ)) → EachLent rows → List Stream
streams [] h = []
streams (row ∷ rows) h = (first_of row rows h).stream ∷ streams rows (others_of row rows h)

all_hold : (rows : List (List ℕ)) (h : EachLent rows) → rows ≡ map packed_stream (streams rows h)
unfolding streams
all_hold [] h = refl
all_hold (row ∷ rows) h = λ i. (first_of row rows h).holds i ∷ all_hold rows (others_of row rows h) i

as_many : (rows : List (List ℕ)) (h : EachLent rows) → length (streams rows h) ≡ length rows
unfolding streams
as_many [] h = refl
as_many (row ∷ rows) h = ap suc (as_many rows (others_of row rows h))

each_sound : (rows : List (List ℕ)) (h : EachLent rows) (k : ℕ) → k < length rows → SoundStream (get_or (streams rows h) k fresh_stream)
unfolding streams
each_sound [] h k l = absurd (not-suc-le-zero l)
each_sound (row ∷ rows) h zero l = (first_of row rows h).sound
each_sound (row ∷ rows) h (suc k) l = each_sound rows (others_of row rows h) k (le_of_suc-le-suc l)

pub words_hold : (words : List (List ℕ)) {b : Bool} → length words ≡ 16 → Tells b (EachLent words) → Tells b (Lent words)
words_hold words count t =
    record {
      only = λ y.
          let h = t.only y in
          record {
            meter = record { streams = streams words h };
            sound = record { count = as_many words h ∙ count; each = λ k low. each_sound words h k (omega arith) };
            holds = all_hold words h;
          };
      always = λ l. t.always (λ k low. lent_row k l (omega arith));
    }
