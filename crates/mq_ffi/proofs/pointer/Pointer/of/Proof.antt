-- `of` keeps the pointer, with what it owns.
use Rattle.std.proofs.Common.{◌≡◌, List, [], ◌∷◌, ◌++◌, refl, Some}
use mir.Val.{Val, vptr}
use base.Logic.{SProp, emp, id⊢}
use base.Fml.{ftrue}
use prog.Wp.{WpFn}
use contract.Monad.{fact, fact_i}
use contract.Running.{tables}
use types.Kit.{‵, raw, ◌⊛◌, prop, ◌$◌, ◌∵◌, !, qed, by, move, drop, use0, use1, split, regoal, fsplit, fjoin}
use types.Part.{whole, sub, agg}
use types.Run.{stop, fld, of_opd, no_more, and_then, returns, enter}
use types.ByLocal.{alloc_all, pass_all, free_all, look_at, get, get_in, sets}
use denote.Exit.{yes}
use denote.RattleType.{owns}
use denote.RawPtr.{block_ptr}
use denote.Signature.{types_at, plain}
use denote.Steps.{nothing}
use denote.Triple.Entry.{alive}
use denote.Triple.Walked.{Stays, stay_dropped, walk_of}
use Rattle.core.proofs.alloc.Calls.{Goes-blank}
use Rattle.std.proofs.raw_atomic.Walks.{proved_at, leaves}
use Rattle.std_heap.specs.contracts.Global as global
use Rattle.std_heap.specs.contracts.GlobalAllocator.TheImpl as heap
use Rattle.std_heap.proofs.Global.TheLaws as global_laws
use Rattle.mq_ffi.specs.Owning.{inside}
use Rattle.mq_ffi.specs.contracts.live.Live as live
use Rattle.mq_ffi.specs.contracts.loose.Loose as loose
use Rattle.mq_ffi.proofs.LooseValues.{both, loose_good, loose_out}
use Rattle.mq_ffi.proofs.PointerValues.{pointer_val, pointer_typed, pointer_in}
use Rattle.mq_ffi.specs.contracts.pointer.Pointer.of.{ended, clauses}
use Rattle.mq_ffi.specs.contracts.pointer.Pointer.of.Key.{name as #self}
use Rattle.mq_ffi.proofs.pointer.Pointer.of.Statement.{statement}
use Rattle.mq_ffi.proofs.pointer.Pointer.of.Code as code

abbrev hs : Stays ended.signature.params ended.kept
hs = (stay_dropped (plain (λ _. loose.the_row live.the_row global.the_row heap.ghosts)) yes, tt)

pub of_spec : {M : Type 1} → statement M
of_spec 𝓤 𝓛 𝓜 𝓡 wired =
    let H = 𝓛.H in let 𝓣 = tables 𝓤 H 𝓜 𝓡 𝓡.env in let c = clauses 𝓛 𝓜.mem 𝓡.returns in
    let R = live.the_row in let Z = global.the_row in let LZ = global_laws.the_row_laws in let g = heap.ghosts in
    proved_at 𝓛 ended hs c 𝓜 𝓡 (Goes-blank 𝓛 0 (plain (λ _. loose.the_row R Z g)) yes (λ κs x f. tt), tt) #self code.function (code.unfolded 𝓤 H 𝓜 𝓡 wired) (λ z are.
    let d = z.0.3.0 in
    let Post : Val → SProp 𝓤 = (walk_of 𝓛 ended hs c).post z in
    qed 𝓛 ((raw (alive 𝓛 ended.signature z.0.0 z.0.1) ⊛ ‵ (owns (types_at ended.signature.params z.0.0) z.0.3 z.0.4)) ∷ ‵ ftrue ∷ []) ∵
    move ! (1 ∷ []) $ drop ! $ split ! $ move ! (1 ∷ []) $ fsplit ! $ loose_out R Z LZ g ! d z.0.4.0 (λ b o hv e ws fits.
    -- [the box; the handle to the heap; nothing; the tokens]
    move ! (1 ∷ []) $ drop ! $ move ! (1 ∷ []) $ drop ! $
    regoal ! (λ (us : List Val). prop (WpFn 𝓤 H 𝓣.C 𝓣.Λ code.function us Post)) (λ i. ws i ++ []) refl $
    enter ! 𝓣.C 𝓣.Λ code.function (both (vptr b o) hv ∷ []) Post $
    alloc_all ! (λ l. pass_all ! refl (loose_good R Z LZ g b o hv fits, tt) $
    sets ! (of_opd ! (get_in ! (fld ! refl (stop !)) (sub ! 0 refl (whole !)))) refl (tt, tt) $
    sets ! (of_opd ! (get ! refl)) refl (tt, tt) $
    sets ! (agg ! (and_then ! (get ! refl) (no_more !))) refl (pointer_typed (block_ptr b o)) $
    returns ! (look_at ! 0 refl) $ free_all ! refl $
    use1 𝓛 (‵ (inside (block_ptr b o) (Some d.value))) (id⊢ 𝓤 _) $ pointer_in ! (block_ptr b o) (Some d.value) $
    use0 𝓛 (raw (fact 𝓤 (Some d.value ≡ Some d.value))) (fact_i 𝓤 (Some d.value ≡ Some d.value) (emp 𝓤) refl) $
    nothing ! $ nothing ! $ fjoin ! $ move ! (3 ∷ 0 ∷ 2 ∷ 1 ∷ []) $
    by ! (leaves 𝓛 ended hs c z (pointer_val (block_ptr b o)) (record { at = block_ptr b o; live = Some d.value }) (tt, tt) (tt, tt)))))
