-- The answers of the walk: document 02's number, or the values, for each case.
use Rattle.std.specs.Prelude.{cond, List, ℕ, Option, Some, None, option_map, Result}
use Rattle.std.specs.Borrow.{Bor}
use Rattle.records.specs.declared.refusal.Refusal.{Refusal}
use Rattle.records.specs.Order.{Outcome}
use Rattle.records.specs.Refusals.{outcome}
use Rattle.day_file.specs.declared.Place.{Place as Found}
use Rattle.day_file.specs.declared.Place.TheVariants as found
use Rattle.day_file.specs.declared.Next.{Next as Step}
use Rattle.day_file.specs.declared.Next.TheVariants as step
use Rattle.day_file.specs.Format.{block_in, after_block, no_block}
use Rattle.day_file.specs.Walk.{Place, block, end, Next, offset, at_end}

abbrev pub place : Found → Place
place (found.Block b n) = block b.now n
place found.End = end

abbrev pub place_meaning : Result Found Refusal → Outcome Place
place_meaning = outcome place

abbrev pub next : Step → Next
next (step.Offset n) = offset n
next step.End = at_end

abbrev pub next_meaning : Result Step Refusal → Outcome Next
next_meaning = outcome next

abbrev pub block_meaning : Option (Bor (List ℕ)) → Option (List ℕ)
block_meaning = option_map (λ b. b.now)

-- the block at the front of bytes, and the bytes after it
abbrev pub front_of : List ℕ → Option (List ℕ × List ℕ)
front_of bs = cond (no_block bs) None (Some (block_in bs, after_block bs))

abbrev pub split_meaning : Option (Bor (List ℕ) × Bor (List ℕ)) → Option (List ℕ × List ℕ)
split_meaning = option_map (λ p. (p.0.now, p.1.now))
