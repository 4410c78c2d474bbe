-- `into_loose` hands on the pointer with what it owns.
use Rattle.std.proofs.Common.{◌≡◌, List, [], ◌∷◌, ◌++◌, refl, ap, ◌∙◌, Option, Some, None, is_some, true}
use Rattle.std.proofs.lemmas.Bool.{false≢true}
use mir.Raw.{raw as bare}
use mir.Val.{Val, vptr}
use base.Logic.{SProp, emp, never, fst∗}
use prog.Wp.{WpFn}
use types.Logic.{sem}
use contract.Monad.{fact, fact_i}
use contract.Running.{tables}
use types.Kit.{‵, raw, ◌⊛◌, prop, ◌$◌, ◌∵◌, !, qed, by, move, drop, use0, split, regoal, fsplit, fjoin, rewrite}
use types.Part.{whole, sub, agg}
use types.Run.{stop, fld, of_opd, no_more, and_then, returns, enter}
use types.ByLocal.{alloc_all, pass_all, free_all, look_at, get, get_in, sets}
use denote.Exit.{yes}
use denote.RattleType.{owns}
use denote.RawPtr.{Ptr, block_ptr, null_ptr, in_a_block}
use denote.Memory.{lone}
use denote.Signature.{types_at, plain}
use denote.Steps.{nothing, heard}
use denote.Triple.Entry.{alive}
use denote.Triple.Walked.{Stays, stay_dropped, walk_of}
use Rattle.core.proofs.alloc.Calls.{handle_tells, Goes-blank}
use Rattle.std.proofs.raw_atomic.Walks.{proved_at, leaves}
use Rattle.std_alloc.specs.Box.Ownership.{box_owns}
use Rattle.std_heap.specs.contracts.Global as global
use Rattle.std_heap.specs.contracts.GlobalAllocator.TheImpl as heap
use Rattle.std_heap.proofs.Global.TheLaws as global_laws
use Rattle.mq_ffi.specs.Owning.{inside}
use Rattle.mq_ffi.specs.declared.live.Live.{Live}
use Rattle.mq_ffi.specs.contracts.live.Live as live
use Rattle.mq_ffi.specs.contracts.pointer.Pointer as pointer
use Rattle.mq_ffi.proofs.LooseValues.{both, al, loose_good, loose_in}
use Rattle.mq_ffi.proofs.PointerValues.{pointer_val, pointer_typed, pointer_out}
use Rattle.mq_ffi.specs.contracts.pointer.Pointer.into_loose.{ended, clauses}
use Rattle.mq_ffi.specs.contracts.pointer.Pointer.into_loose.Key.{name as #self}
use Rattle.mq_ffi.proofs.pointer.Pointer.into_loose.Statement.{statement}
use Rattle.mq_ffi.proofs.pointer.Pointer.into_loose.Code as code

abbrev hs : Stays ended.signature.params ended.kept
hs = (stay_dropped (plain (λ _. pointer.the_row)) yes, (stay_dropped (plain (λ _. global.the_row)) yes, tt))

some_of : (l : Option Live) → is_some l ≡ true → (value : Live) × (l ≡ Some value)
some_of (Some value) is = (value, refl)
some_of None is = absurd (false≢true is)

pub into_loose_spec : {M : Type 1} → statement M
into_loose_spec 𝓤 𝓛 𝓜 𝓡 wired =
    let H = 𝓛.H in let 𝓣 = tables 𝓤 H 𝓜 𝓡 𝓡.env in let c = clauses 𝓛 𝓜.mem 𝓡.returns in
    let R = live.the_row in let Z = global.the_row in let LZ = global_laws.the_row_laws in let g = heap.ghosts in
    proved_at 𝓛 ended hs c 𝓜 𝓡 (Goes-blank 𝓛 0 (plain (λ _. pointer.the_row)) yes (λ κs x f. tt), (Goes-blank 𝓛 0 (plain (λ _. global.the_row)) yes (λ κs x f. tt), tt)) #self code.function (code.unfolded 𝓤 H 𝓜 𝓡 wired) (λ z are.
    let h = z.0.3.0 in let a = z.0.3.1.0 in
    let Post : Val → SProp 𝓤 = (walk_of 𝓛 ended hs c).post z in
    qed 𝓛 ((raw (alive 𝓛 ended.signature z.0.0 z.0.1) ⊛ ‵ (owns (types_at ended.signature.params z.0.0) z.0.3 z.0.4)) ∷ raw (fact 𝓤 (is_some h.live ≡ true)) ∷ []) ∵
    split ! $ move ! (2 ∷ []) $ heard ! (is_some h.live ≡ true) (λ some. let found = some_of h.live some in let value = found.0 in let is = found.1 in move ! (1 ∷ []) $ fsplit ! $ pointer_out ! h z.0.4.0 (λ ws.
    rewrite ! 0 (λ (l : Option Live). ‵ (inside h.at l)) is refl $
    in_a_block ! h.at (λ p. box_owns (g.dealloc_token a) R p value) (fst∗ 𝓤 (never 𝓤) (sem 𝓛 (g.dealloc_token a (bare (lone R.mir)) null_ptr))) (λ b o e.
    move ! (1 ∷ []) $ fsplit ! $ handle_tells (al R Z LZ g) ! a z.0.4.1.0 (λ hv eh fits. move ! (1 ∷ []) $ drop ! $ move ! (1 ∷ 0 ∷ []) $
    -- [the box; the handle to the heap; the tokens]
    regoal ! (λ (us : List Val). prop (WpFn 𝓤 H 𝓣.C 𝓣.Λ code.function us Post)) (λ i. (ws ∙ ap (λ (p : Ptr). pointer_val p ∷ []) e) i ++ (eh i ++ [])) refl $
    enter ! 𝓣.C 𝓣.Λ code.function (pointer_val (block_ptr b o) ∷ hv ∷ []) Post $
    alloc_all ! (λ l. pass_all ! refl (pointer_typed (block_ptr b o), (fits, tt)) $
    sets ! (of_opd ! (get_in ! (fld ! refl (stop !)) (sub ! 0 refl (whole !)))) refl (tt, tt) $
    sets ! (of_opd ! (get ! refl)) refl (tt, tt) $
    sets ! (agg ! (and_then ! (get ! refl) (and_then ! (get ! refl) (no_more !)))) refl (loose_good R Z LZ g b o hv fits) $
    returns ! (look_at ! 0 refl) $ free_all ! refl $
    loose_in R Z LZ g ! b o hv a value $
    use0 𝓛 (raw (fact 𝓤 (h.live ≡ Some value))) (fact_i 𝓤 (h.live ≡ Some value) (emp 𝓤) is) $
    nothing ! $ nothing ! $ fjoin ! $ nothing ! $ fjoin ! $ move ! (3 ∷ 0 ∷ 2 ∷ 1 ∷ []) $
    by ! (leaves 𝓛 ended hs c z (both (vptr b o) hv) (record { at = block_ptr b o; alloc = a; value = value }) (tt, (tt, tt)) (tt, (tt, tt)))))))))
