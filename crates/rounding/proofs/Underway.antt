-- A search that is under way: what it has tried, and what it still tries.
use mathlib.Core.Path.{◌≡◌, refl, sym, ap, ◌∙◌}
use mathlib.Core.List.{List, [], ◌∷◌, ◌++◌, append_assoc, append-nil}
use Prim.Native.Nat.{ℕ, suc, ◌+◌, ◌*◌, ◌-◌, ◌^◌, ◌≤◌, ◌<◌}
use native.Mathlib.Numerals.{add-one}
use native.Mathlib.Omega.{arith}
use lib.ListN.{length, take, drop, set, length-append, length-set, replicate, take-append-drop}
use lib.Seq.{length-take-le, take-suc-set, drop-set-lt, drop-drop}
use Rattle.rounding.specs.Root.{root}
use Rattle.rounding.specs.Search.{next_candidate, first_candidate, candidates_from, candidates}
use Rattle.rounding.specs.Answers.{Searched}
use Rattle.rounding.proofs.RootLaws.{root_is}
use Rattle.rounding.proofs.Newton.{not_below, positive}
use Rattle.rounding.proofs.FirstCandidate.{first_starts}
use Rattle.rounding.proofs.Search.{from_last, from_another, root_found, every_search}

-- after some rounds of the search for the root of n: c is the candidate of the next one
pub record Underway (n : ℕ) (tried : List ℕ) (c rounds : ℕ) : Type 0 where
  pub least : root n ≤ c
  pub few : rounds < 40
  pub room : length tried ≡ 40
  pub made : take rounds tried ++ candidates_from n (40 - rounds) c ≡ candidates n
  pub past : drop rounds tried ≡ replicate (40 - rounds) 0

pub begun : (n c : ℕ) → n < 2 ^ 64 → c ≡ first_candidate n → Underway n (replicate 40 0) c 0
unfolding candidates
begun n c small e =
    let f = first_starts n (root_is n small) small in
    rw e (record { least = f.least; few = omega arith; room = refl; made = refl; past = refl })

module _ {n c rounds : ℕ} {tried : List ℕ} (small : n < 2 ^ 64) (u : Underway n tried c rounds) where
  one_left : 40 - rounds ≡ suc (40 - (rounds + 1))
  one_left = omega (arith, u.few)

  -- the candidate is written down
  written : take (rounds + 1) (set tried rounds c) ≡ take rounds tried ++ (c ∷ [])
  written = rw add-one (take-suc-set tried rounds c (omega (arith, u.few, u.room)))

  stays : drop (rounds + 1) (set tried rounds c) ≡ replicate (40 - (rounds + 1)) 0
  stays = drop-set-lt (rounds + 1) tried rounds c (omega arith) ∙ sym (drop-drop 1 rounds tried) ∙ rw (u.past, one_left)

  -- with a candidate more, of the rounds that are left
  more : (cs : List ℕ) → candidates_from n (40 - rounds) c ≡ c ∷ cs → take (rounds + 1) (set tried rounds c) ++ cs ≡ candidates n
  more cs e = rw (written, append_assoc, ← e) u.made

  count : length (take (rounds + 1) (set tried rounds c)) ≡ rounds + 1
  count = length-take-le (rounds + 1) (set tried rounds c) (omega (arith, length-set tried rounds c, u.room, u.few))

  -- the round is the last
  pub ends : c * c ≤ n → Searched n (record { root = c; rounds = rounds + 1; tried = set tried rounds c })
  ends h =
      let all : take (rounds + 1) (set tried rounds c) ≡ candidates n = sym (append-nil _) ∙ more [] (rw one_left (from_last n (40 - (rounds + 1)) c h)) in
      let k : rounds + 1 ≡ length (candidates n) = sym count ∙ ap length all in
      record {
        root_is = root_found n (root_is n small) u.least h;
        rounds_are = k;
        tried_are = sym (take-append-drop (rounds + 1) (set tried rounds c)) ∙ rw (all, stays, k);
      }

  -- or it is not
  pub again : n < c * c → Underway n (set tried rounds c) (next_candidate n c) (rounds + 1)
  again h =
      let all = more (candidates_from n (40 - (rounds + 1)) (next_candidate n c)) (rw one_left (from_another n (40 - (rounds + 1)) c h)) in
      record {
        least = not_below n c (root_is n small) (positive n c h);
        few = omega (arith, (every_search n small).few, count, simp length-append at (ap length all));
        room = length-set tried rounds c ∙ u.room;
        made = all;
        past = stays;
      }
