-- A field of the k-th figure is the k-th of the list of that field, and no scale and no step is 0.
use Rattle.std.proofs.Common.{ℕ, get_or, sym}
use Rattle.std.proofs.Math.ListN.{get_or-map}
use Rattle.printed_tables.specs.declared.text.Figure.{Figure}
use Rattle.printed_tables.specs.declared.text.TheConstants.{FIGURES}
use Rattle.printed_tables.proofs.NumberLaws.{at_least}
use Rattle.printed_tables.proofs.annex_d.figure_of.Goals as goal

abbrev blank : Figure
blank = record { digits = 0; scale = 0; step = 0 }

pub returns : goal.returns
returns c = record {
  digits = sym (get_or-map (λ (f : Figure). f.digits) FIGURES c.args.k blank);
  scale = at_least (λ (k : ℕ). (get_or FIGURES k blank).scale) 1 29 tt c.args.k c.requires;
  step_above = at_least (λ (k : ℕ). (get_or FIGURES k blank).step) 1 29 tt c.args.k c.requires;
  step = sym (get_or-map (λ (f : Figure). f.step) FIGURES c.args.k blank);
}
