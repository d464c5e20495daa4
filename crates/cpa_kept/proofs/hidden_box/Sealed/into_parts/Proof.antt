-- `into_parts` gives the pointer its type again, and what it owns goes with it.
use mathlib.Core.Path.{refl, sym, subst}
use mathlib.Core.List.{List, [], ◌∷◌, ◌++◌}
use seplogic.Ra.Ura.{Ura}
use mir.Val.{Val, vptr}
use base.Logic.{SProp, ent, id⊢}
use base.Fml.{ftrue, fsep}
use prog.Memory.{Memory}
use prog.Routine.{Routine}
use prog.Wp.{WpFn, Tables}
use types.Logic.{Logic}
use contract.Monad.{Fun}
use contract.Running.{tables, tables_of}
use sound.WpLaws.{WpFn-mono}
use types.Kit.{Item, ‵, ◌⊛◌, ◌$◌, ◌∵◌, !, qed, by, move, drop, use1, join, split, fsplit, fjoin, suffices, done}
use types.Part.{whole, sub, agg}
use types.Run.{stop, fld, no_more, and_then, of_opd, returns, enter}
use types.ByLocal.{alloc_all, pass_all, free_all, look_at, get, get_in, sets}
use denote.Exit.{yes}
use denote.RawPtr.{Ptr, block_ptr}
use denote.Signature.{type_at}
use denote.Steps.{nothing}
use denote.Triple.Entry.{on_entry}
use denote.Triple.Spec.{triple_of}
use denote.Triple.Table.{entered}
use denote.Triple.Walked.{says, needs, Stays, stay_dropped, walk_of, ends_at, Goes-dropped, walk_Meets}
use Rattle.std.proofs.Common.{Option, Some, None, IsSome}
use Rattle.core.proofs.alloc.Calls.{token, handle_tells}
use Rattle.std_alloc.proofs.BoxSteps.Form.{D, R, word, box_typed}
use Rattle.std_alloc.proofs.BoxSteps.Steps.{box_in}
use Rattle.std.specs.Box.Ownership.{box_owns}
use Rattle.std_heap.specs.contracts.Global as Heap
use Rattle.cpa_session.specs.contracts.session.Session as Session
use Rattle.cpa_kept.specs.contracts.hidden_box.Sealed as Sealed
use Rattle.cpa_kept.proofs.SealedSteps.{E, FromSeal as From, FromHeap, alone, sealed_out}
use Rattle.cpa_kept.specs.contracts.hidden_box.Sealed.into_parts as F
use Rattle.cpa_kept.specs.contracts.hidden_box.Sealed.into_parts.Key.{name as #self}
use Rattle.cpa_kept.proofs.hidden_box.Sealed.into_parts.Statement as stated
use Rattle.cpa_kept.proofs.hidden_box.Sealed.into_parts.Code as code

abbrev stayed : Stays (F.ended).signature.params (F.ended).kept
stayed = (stay_dropped From yes, (stay_dropped FromHeap yes, tt))

module _ {M : Type 1} {𝓤 : Ura M} (𝓛 : Logic 𝓤) (at_mem : Memory → SProp 𝓤) (run : Routine → Fun 𝓤) (𝓣 : Tables 𝓤 𝓛.H) where
  open 𝓛 use {H}

  abbrev Ghost : Type 0
  Ghost = (walk_of 𝓛 F.ended stayed (F.clauses 𝓛 at_mem run)).Ghost

  abbrev Post : Ghost → Val → SProp 𝓤
  Post = (walk_of 𝓛 F.ended stayed (F.clauses 𝓛 at_mem run)).post

  abbrev Runs : Ghost → List Val → SProp 𝓤
  Runs z vs = WpFn 𝓤 H 𝓣.C 𝓣.Λ code.function vs (Post z)

  abbrev at : Ptr → Option (Session.the_row.Denot) → Heap.the_row.Denot → List Val → List Val → Ghost
  at p kept a us vs = ((tt, tt, tt, (record { ptr = p; kept = kept }, (a, tt)), (us, (vs, tt))), tt)

  opened : (p : Ptr) (kept : Option (Session.the_row.Denot)) (a : Heap.the_row.Denot) (us vs : List Val) → IsSome kept
      → ent 𝓤 (on_entry 𝓛 F.signature tt tt (record { ptr = p; kept = kept }, (a, tt)) (us, (vs, tt))) (Runs (at p kept a us vs) (us ++ (vs ++ [])))
  opened p None a us vs some = absurd (let no : ⊥ = cc in no)
  opened p (Some x) a us vs some =
      let z = at p (Some x) a us vs in
      let To = type_at (F.signature).result tt in
      qed 𝓛 ((‵ ftrue ⊛ ‵ (fsep (Sealed.the_row.own_val (record { ptr = p; kept = Some x }) us) (fsep (Heap.the_row.own_val a vs) ftrue))) ∷ []) ∵
      split ! $ drop ! $ fsplit ! $ sealed_out ! p x us (λ b o e is. move ! (1 ∷ []) $ fsplit ! $ handle_tells E.al ! a vs (λ hv ea fa.
      let d : D E = record { ptr = block_ptr b o; alloc = a; value = x } in
      let made : To.Denot = record { ptr = block_ptr b o; alloc = a; value = x } in
      let w = word E hv b o in
      move ! (2 ∷ []) $ use1 𝓛 (‵ (box_owns (token E.al a) (R E) (block_ptr b o) x)) (id⊢ 𝓤 _) $ fsplit ! $ box_in E ! d b o x refl refl $
      use1 𝓛 (‵ (To.own_val made (w ∷ []))) (id⊢ 𝓤 _) $ move ! (1 ∷ []) $ drop ! $
      let Γ : List (Item 𝓤) = ‵ (To.own_val made (w ∷ [])) ∷ [] in
      by ! (subst (λ (ws : List Val). ent 𝓤 (types.Kit.⋆ 𝓛 Γ) (Runs z (ws ++ (vs ++ [])))) (sym is)
      (subst (λ (ws : List Val). ent 𝓤 (types.Kit.⋆ 𝓛 Γ) (Runs z (alone (vptr b o) ∷ (ws ++ [])))) (sym ea)
      (qed 𝓛 Γ ∵ enter ! 𝓣.C 𝓣.Λ code.function (alone (vptr b o) ∷ hv ∷ []) _ $ alloc_all ! (λ ls. pass_all ! refl ((tt, (tt, tt)), (fa, tt)) $
      sets ! (of_opd ! (get_in ! (fld ! refl (stop !)) (sub ! 0 refl (whole !)))) refl (tt, tt) $ sets ! (of_opd ! (get ! refl)) refl (tt, tt) $
      sets ! (agg ! (and_then ! (get ! refl) (and_then ! (get ! refl) (no_more !)))) refl (box_typed E hv b o fa) $ returns ! (look_at ! 0 refl) $ free_all ! refl $
      suffices ! _ (ends_at 𝓛 F.ended stayed (F.clauses 𝓛 at_mem run) z w made (tt, (tt, tt)) (tt, (tt, tt))) $ says ! refl $
      nothing ! $ nothing ! $ fjoin ! $ nothing ! $ fjoin ! $ join ! $ nothing ! $ join ! $ done !))))))

  walk : (z : Ghost) → ent 𝓤 ((walk_of 𝓛 F.ended stayed (F.clauses 𝓛 at_mem run)).pre z) (Runs z (z.0.4.0 ++ (z.0.4.1.0 ++ [])))
  walk z = needs 𝓤 (IsSome z.0.3.0.kept) _ (opened z.0.3.0.ptr z.0.3.0.kept z.0.3.1.0 z.0.4.0 z.0.4.1.0)

pub into_parts_spec : {M : Type 1} → stated.statement M
unfolding tables_of
into_parts_spec 𝓤 𝓛 𝓜 𝓡 wired =
    let 𝓣 : Tables 𝓤 𝓛.H = tables_of 𝓤 𝓛.H 𝓜 (tables 𝓤 𝓛.H 𝓜 𝓡 𝓡.env) in
    entered 𝓤 𝓛.H (triple_of 𝓛 F.signature (F.spec 𝓛 𝓜.mem 𝓡.returns)) 𝓣.C 𝓣.Λ #self code.function (code.unfolded 𝓤 𝓛.H 𝓜 𝓡 wired)
    (walk_Meets 𝓛 F.ended stayed (Goes-dropped 𝓛 0 From yes (λ κs x f. refl), (Goes-dropped 𝓛 0 FromHeap yes (λ κs x f. refl), tt)) (F.clauses 𝓛 𝓜.mem 𝓡.returns) (WpFn 𝓤 𝓛.H 𝓣.C 𝓣.Λ code.function) (WpFn-mono 𝓤 𝓛.H 𝓛.laws 𝓣 code.function)
    (walk 𝓛 𝓜.mem 𝓡.returns 𝓣))
