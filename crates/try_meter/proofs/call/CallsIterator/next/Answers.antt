-- Each part begins where the one before it ends.
use Rattle.std.proofs.Common.{◌≡◌, ℕ, List, ◌∙◌, ◌+◌, take, drop, arith, w16, w64}
use Rattle.std.proofs.lemmas.Grind.{common_steps}
use Rattle.std.proofs.lemmas.List.{drop-drop}
use Rattle.std.specs.Int.{from_le_bytes}
use Rattle.records.specs.Format.{number2}
use Rattle.try_meter.specs.Calls.{number8, title_at}
use Rattle.try_meter.proofs.call.CallsIterator.next.Goals as goal

-- the number whose bytes stand at an offset
number2_at : (n : ℕ) (bs : List ℕ) → from_le_bytes w16 (take 2 (drop n bs)) ≡ number2 bs n
number2_at n bs = grind (arith, common_steps)

number8_first : (bs : List ℕ) → from_le_bytes w64 (take 8 bs) ≡ number8 bs 0
number8_first bs = grind (arith, common_steps)

number8_after : (n : ℕ) (bs : List ℕ) → number8 (drop n bs) 0 ≡ number8 bs n
number8_after n bs = grind (arith, common_steps)

number8_at : (n : ℕ) (bs : List ℕ) → from_le_bytes w64 (take 8 (drop n bs)) ≡ number8 bs n
number8_at n bs = number8_first (drop n bs) ∙ number8_after n bs

pub returns-clause-steps : goal.returns-clause-steps
returns-clause-steps c =
    let bs = c.args.self.now.0.now in
    let a : c.in_ok-letter.rest.now ≡ drop 1 bs = grind (arith, common_steps) in
    let tn = c.in_ok-title_length.ensures.cases in
    let ln = c.in_ok-length.ensures.cases in
    let sn = c.in_ok-stream.ensures.cases in
    let vn = c.in_ok-volume.ensures.cases in
    let tt = c.in_ok-title.ensures.cases in
    let bb = c.in_ok-bytes.ensures.cases in
    let b : c.in_ok-title_length.rest.now ≡ drop 3 bs = tn.1 ∙ rw a (drop-drop 2 1 bs) in
    let d : c.in_ok-length.rest.now ≡ drop 5 bs = ln.1 ∙ rw b (drop-drop 2 3 bs) in
    let e : c.in_ok-stream.rest.now ≡ drop 13 bs = sn.1 ∙ rw d (drop-drop 8 5 bs) in
    let r : c.in_ok-volume.rest.now ≡ drop title_at bs = vn.1 ∙ rw e (drop-drop 8 13 bs) in
    let n : c.into.result ≡ number2 bs 1 = c.into.ensures ∙ c.from_le_bytes.ensures ∙ rw (tn.0, a) (number2_at 1 bs) in
    let m : c.into-2.result ≡ number2 bs 3 = c.into-2.ensures ∙ c.from_le_bytes-2.ensures ∙ rw (ln.0, b) (number2_at 3 bs) in
    record {
      kind_is = grind (arith, common_steps);
      stream_is = c.from_le_bytes-3.ensures ∙ rw (sn.0, d) (number8_at 5 bs);
      volume_is = c.from_le_bytes-4.ensures ∙ rw (vn.0, e) (number8_at 13 bs);
      title_is = tt.1 ∙ rw (r, n);
      record_is = bb.1 ∙ rw (tt.2, r, n, m, drop-drop (number2 bs 1) title_at bs);
      rest_is = bb.2 ∙ rw (tt.2, r, n, m, drop-drop (number2 bs 1) title_at bs, drop-drop (number2 bs 3) (title_at + number2 bs 1) bs);
    }
