use Rattle.std.proofs.Common.{subst, sym, ◌∙◌}
use Rattle.std.specs.List.Sorted.{IsNonDecreasing}
use Rattle.std.proofs.lemmas.List.Sorted.{IsNonDecreasingBy-from_sort}
use Rattle.cpa_buffer.specs.Peaks.{inside}
use Rattle.cpa_buffer.proofs.GreatestLaws.{greatest-agree}
use Rattle.cpa_buffer.proofs.SweepLaws.{inside-permuted, all-permuted}
use Rattle.cpa_buffer.proofs.sweep.most_inside.Goals as goal

pub sweep-requires-clause-arrivals : goal.sweep-requires-clause-arrivals
sweep-requires-clause-arrivals c = subst IsNonDecreasing (sym c.as_slice.ensures.value) (IsNonDecreasingBy-from_sort (λ x. x) c.sort.new.self.items c.in_ok-sort.ensures.sorted)

pub sweep-requires-clause-ends : goal.sweep-requires-clause-ends
sweep-requires-clause-ends c = subst IsNonDecreasing (sym c.as_slice-2.ensures.value) (IsNonDecreasingBy-from_sort (λ x. x) c.sort-2.new.self.items c.in_ok-sort-2.ensures.sorted)

pub returns : goal.returns
returns c = λ last all.
    let xs = c.args.arrivals.items in
    let us = c.args.ends.items in
    let ys = c.sort.new.self.items in
    let vs = c.sort-2.new.self.items in
    let p = c.in_ok-sort.ensures.permutation in
    let q = c.in_ok-sort-2.ensures.permutation in
    let swept = rw (c.as_slice.ensures.value, c.as_slice-2.ensures.value) at c.sweep.ensures in
    swept last (all-permuted last xs ys p all) ∙ greatest-agree (inside ys vs) (inside xs us) last (λ t within. inside-permuted xs ys us vs t p q)
