use Rattle.std.proofs.Common.{◌≡◌, ◌<◌, ℕ, true, false, sym, ◌∙◌, List, Bool, length, arith, inl, inr, subst}
use Rattle.std.proofs.lemmas.Bool.{both_ways}
use Rattle.cpa_depend.specs.Cone.{Reads}
use Rattle.cpa_depend.proofs.ConeLaws.{IsPass, pass-none, pass-start, pass-leave, pass-add}
use Rattle.cpa_depend.proofs.ChainLaws.{AreReads-row}
use Rattle.cpa_depend.proofs.cones.widened.Goals as goal
use Rattle.cpa_depend.proofs.cones.widened.Goals.{then-not-has+then-meets, else-not-has, else-not-has-via-then-not-has+else-meets, else-not-has-via-else-not-has}

pub loop-place-init : goal.loop-place-init
loop-place-init c = pass-start c.args.system.now c.args.set

pub loop-place-preserved : goal.loop-place-preserved
loop-place-preserved c =
    let s = c.args.system.now in
    let place = c.loop-place.place in
    let in_range : place < length s.resources = omega arith in
    let in_table : place < length c.args.reads.now = omega (arith, c.told-reads, c.resources-count.ensures.rules.few_resources) in
    let row = λ (outside : List Bool). AreReads-row s c.args.reads.now place outside c.requires.reads in_range in_table in
    elim c.if-not-has.branch [
      | then-not-has+then-meets w ↦
          let met = w.meets.ensures.0 w.if-meets.true in
          let reads : Reads s place met.0 = (row w.index-reads-place.result met.0).0 met.1 in
          rw (w.wider-is, w.grown-is)
          (pass-add s c.args.set c.loop-place.wider w.with-wider.result c.loop-place.grown place met.0 in_range (sym c.has.ensures ∙ w.if-not-has.true) reads met.2 w.with-wider.ensures c.loop-place.invariant)
      | else-not-has w ↦
          rw (w.wider-is, w.grown-is)
          (pass-leave s c.args.set c.loop-place.wider c.loop-place.grown place
          (elim w.else-not-has.branch [
            | else-not-has-via-then-not-has+else-meets v ↦ inr (λ q reads m.
                let member = (row v.index-reads-place.result q).1 reads in
                let yes : v.meets.result ≡ true = v.meets.ensures.1 (q, member, m) in
                both_ways v.meets.result v.if-meets.false yes)
            | else-not-has-via-else-not-has v ↦ inl (sym c.has.ensures ∙ v.if-not-has.false)
          ])
          c.loop-place.invariant)
    ]

pub returns-else-grown : goal.returns-else-grown
returns-else-grown c =
    let s = c.args.system.now in
    let over : c.loop-place.place ≡ length s.resources = omega arith in
    let pass = subst (λ (grown : Bool). IsPass s c.args.set c.loop-place.wider grown c.loop-place.place) c.if-grown.false c.loop-place.invariant in
    pass-none s c.args.set c.loop-place.wider c.resources-count.ensures.rules (subst (λ (n : ℕ). IsPass s c.args.set c.loop-place.wider false n) over pass)
