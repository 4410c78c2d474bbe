-- The machine value of a handle, and what it owns. Assumes `Logic`.
use Rattle.std.proofs.Common.{◌≡◌, List, [], ◌∷◌, ◌++◌, refl, ◌∙◌, lit<, Option}
use seplogic.Ra.Ura.{Ura}
use mir.Syntax.{ty_ptr}
use mir.Val.{Val, vstruct, vcons, vnil, of_list, has_ty, WT}
use lib.Dec.{T}
use mathlib.Core.Bool.{◌&&◌, true}
use types.Logic.{Logic}
use types.Kit.{Item, Goal, Seq, Step, step, ‵, ◌$◌, drop, fsplit, fjoin, fpick, fpack, feq_i, feq_l}
use denote.RattleType.{Valss}
use denote.RawPtr.{Ptr, RawPtr, block_ptr, null_ptr, ptr_val}
use denote.Steps.{nothing}
use denote.Struct.Struct.{within}
use denote.Struct.Owning.{shape}
use Rattle.core.proofs.cell.Inside.{Good}
use Rattle.mq_ffi.specs.Owning.{inside}
use Rattle.mq_ffi.specs.declared.live.Live.{Live}
use Rattle.mq_ffi.specs.contracts.pointer.Pointer as pointer

abbrev pub pointer_val : Ptr → Val
pointer_val p = vstruct (vcons (ptr_val p) vnil)

pub ptr_typed : (p : Ptr) → Good ty_ptr (ptr_val p)
ptr_typed (block_ptr b o) = (tt, tt)
ptr_typed null_ptr = (tt, record { fits = lit< tt })

pub pointer_typed : (p : Ptr) → T (has_ty ty_ptr (ptr_val p) && true) × WT (pointer_val p)
pointer_typed (block_ptr b o) = (tt, (tt, tt))
pointer_typed null_ptr = (tt, (record { fits = lit< tt }, tt))

module _ {M : Type 1} {𝓤 : Ura M} {𝓛 : Logic 𝓤} {K : Type 0} {Γ : List (Item 𝓤)} {G : Goal 𝓤 𝓛.H} where
  pub pointer_out : K → (h : (pointer.the_row).Denot) (vs : List Val) → (vs ≡ pointer_val h.at ∷ [] → Seq K 𝓛 (‵ (inside h.at h.live) ∷ Γ) G) → Seq K 𝓛 (‵ ((pointer.the_row).own_val h vs) ∷ Γ) G
  pointer_out t h vs k =
      fsplit t $ fpick t (λ vss. fsplit t $ feq_l t (λ ev. fsplit t $ feq_l t (λ ep. drop t $ k (ev ∙ (λ j. vstruct (of_list (ep j ++ [])) ∷ [])))))

  pub pointer_in : K → (p : Ptr) (l : Option Live) → Step K 𝓛 (‵ ((pointer.the_row).own_val (record { at = p; live = l }) (pointer_val p ∷ [])) ∷ Γ) G (‵ (inside p l) ∷ Γ) G
  pointer_in t p l = step (λ s. let v : Val = pointer_val p in
      nothing t $ feq_i t (List Val) (ptr_val p ∷ []) (ptr_val p ∷ []) refl $ fjoin t $ feq_i t (List Val) (v ∷ []) (v ∷ []) refl $ fjoin t $
      fpack t (Valss (RawPtr ∷ [])) (within (shape pointer.the_type) (p, tt) (v ∷ [])) (ptr_val p ∷ [], tt) $ fjoin t $ s)
