-- The machine value of a sealed session, and what it owns. Assumes `Logic`.
use Rattle.std.proofs.Common.{◌≡◌, ℕ, List, [], ◌∷◌, ◌++◌, Some, None, refl, subst}
use seplogic.Ra.Ura.{Ura}
use mir.Raw.{raw as bare}
use mir.Val.{Val, vptr, vstruct, vcons, vnil, of_list}
use base.Logic.{never, fst∗}
use types.Logic.{Logic, sem}
use types.Kit.{Item, Goal, Seq, Step, step, ‵, ◌$◌, drop, fsplit, fjoin, fpick, fpack, feq_i, feq_l}
use denote.RattleType.{Valss}
use denote.Builtin.{RawPtr}
use denote.Memory.{lone}
use denote.RawPtr.{Ptr, block_ptr, null_ptr, ptr_val, in_a_block}
use denote.Signature.{Slot, plain}
use denote.Steps.{nothing}
use denote.Struct.Struct.{within}
use denote.Struct.Owning.{shape}
use mir.Syntax.{impl, tnil, dnil}
use Rattle.std.specs.Box.Ownership.{box_owns}
use Rattle.std_alloc.proofs.BoxSteps.Form.{Bx}
use Rattle.cpa_kept.specs.HiddenBox.{frees}
use Rattle.std_heap.specs.contracts.Global as Heap
use Rattle.std_heap.specs.contracts.GlobalAllocator.TheImpl.{ghosts, dict}
use Rattle.std_heap.proofs.Global.TheLaws as heap
use Rattle.cpa_session.specs.contracts.session.Session as Session
use Rattle.cpa_session.proofs.session.Session.TheLaws as session
use Rattle.cpa_kept.specs.contracts.parts.Parts as Parts
use Rattle.cpa_kept.specs.contracts.hidden_box.Sealed as Sealed

-- a box of a session
abbrev pub E : Bx
E = record { row = Session.the_row; laws = session.the_row_laws; al = record { row = Heap.the_row; laws = heap.the_row_laws; g = ghosts; d = dict; drops = impl [] tnil dnil } }

abbrev pub FromParts : Slot 0
FromParts = plain (λ _. Parts.the_row Session.the_row Heap.the_row ghosts)

abbrev pub FromSeal : Slot 0
FromSeal = plain (λ _. Sealed.the_row)

abbrev pub FromHeap : Slot 0
FromHeap = plain (λ _. Heap.the_row)

abbrev pub alone : Val → Val
alone v = vstruct (vcons v vnil)

module _ {M : Type 1} {𝓤 : Ura M} {𝓛 : Logic 𝓤} {K : Type 0} {Γ : List (Item 𝓤)} {G : Goal 𝓤 𝓛.H} where
  -- a block of the heap, sealed
  pub sealed_in : K → (b o : ℕ) (x : Session.the_row.Denot)
      → Step K 𝓛 (‵ (Sealed.the_row.own_val (record { ptr = block_ptr b o; kept = Some x }) (alone (vptr b o) ∷ [])) ∷ Γ) G (‵ (box_owns frees Session.the_row (block_ptr b o) x) ∷ Γ) G
  sealed_in t b o x = step (λ s. let v : Val = alone (vptr b o) in
      nothing t $ feq_i t (List Val) (vptr b o ∷ []) (vptr b o ∷ []) refl $ fjoin t $ feq_i t (List Val) (v ∷ []) (v ∷ []) refl $ fjoin t $
      fpack t (Valss (RawPtr ∷ [])) (within (shape (Sealed.the_type)) (block_ptr b o, tt) (v ∷ [])) (vptr b o ∷ [], tt) $ fjoin t $ s)

  -- no session
  pub nothing_in : K → Step K 𝓛 (‵ (Sealed.the_row.own_val (record { ptr = null_ptr; kept = None }) (alone (ptr_val null_ptr) ∷ [])) ∷ Γ) G Γ G
  nothing_in t = step (λ s. let p : Val = ptr_val null_ptr in let v : Val = alone p in
      nothing t $ nothing t $ feq_i t (List Val) (p ∷ []) (p ∷ []) refl $ fjoin t $ feq_i t (List Val) (v ∷ []) (v ∷ []) refl $ fjoin t $
      fpack t (Valss (RawPtr ∷ [])) (within (shape (Sealed.the_type)) (null_ptr, tt) (v ∷ [])) (p ∷ [], tt) $ fjoin t $ s)

  -- what is sealed is a block of the heap
  pub sealed_out : K → (p : Ptr) (x : Session.the_row.Denot) (vs : List Val)
      → ((b o : ℕ) → p ≡ block_ptr b o → vs ≡ alone (vptr b o) ∷ [] → Seq K 𝓛 (‵ (box_owns frees Session.the_row (block_ptr b o) x) ∷ Γ) G)
      → Seq K 𝓛 (‵ (Sealed.the_row.own_val (record { ptr = p; kept = Some x }) vs) ∷ Γ) G
  sealed_out t p x vs k =
      fsplit t $ fpick t (λ vss. fsplit t $ feq_l t (λ ev. fsplit t $ feq_l t (λ ep. drop t $
      in_a_block t p (λ q. box_owns frees Session.the_row q x) (fst∗ 𝓤 (never 𝓤) (sem 𝓛 (frees (bare (lone (Session.the_row).mir)) null_ptr))) (λ b o e. k b o e
      (subst (λ (q : Ptr). vs ≡ alone (ptr_val q) ∷ []) e (subst (λ (ps : List Val). vs ≡ vstruct (of_list (ps ++ [])) ∷ []) ep ev))))))
