-- The words that these proofs speak in.
pub use Rattle.core.proofs.alloc.Calls.{Al, handle_tells, token, α, Goes-blank}
pub use Rattle.core.proofs.atomic.Steps.{fm}
pub use Rattle.core.proofs.cell.Inside.{Good, one}
pub use Rattle.core.specs.contracts.alloc.Allocator.TheBound.{Met as Allocates}
pub use Rattle.core.specs.declared.alloc.Allocator.{Ghosts}
pub use Rattle.std.proofs.raw_atomic.Walks.{proved_at, leaves}
pub use Rattle.std.specs.List.{flat_map}
pub use Rattle.std.specs.Prelude.{Option, Some, None, is_some, true}
pub use Rattle.std_alloc.proofs.BoxSteps.Form.{Bx, D, B, τ, word, handle, box_typed}
pub use Rattle.std_alloc.proofs.BoxSteps.Steps.{box_out, box_in}
pub use Rattle.std_alloc.proofs.ResultValues.{and_tt}
pub use Rattle.std_alloc.specs.Box.Ownership.{box_owns}
pub use Rattle.tb_embed.specs.clauses.Recorded.{RecordedState, readable}
pub use Rattle.tb_layout.specs.clauses.Failure.{failure_bytes}
pub use Rattle.tb_layout.specs.clauses.Records.{account_bytes}
pub use base.Fml.{Lft, GName, Share, Fml, ftrue, flft, fsep}
pub use base.Logic.{never, fst∗, SProp, ent, sep, id⊢, emp}
pub use contract.Monad.{Fun, fact, fact_i}
pub use contract.Running.{tables, Running}
pub use denote.Builtin.{RawPtr}
pub use denote.Exit.{no, yes}
pub use denote.Memory.{lone, part_at, mem, cell_at}
pub use denote.Param.{layout, param, bounded}
pub use denote.Param.Glue.{Met as Drops}
pub use denote.Param.Laws.{Laws, param_laws}
pub use denote.RattleType.{RattleType, Valss, owns}
pub use denote.RawPtr.{Ptr, block_ptr, null_ptr, ptr_val, in_a_block}
pub use denote.Signature.{Slot, plain, mut_ref_to, type_at, types_at}
pub use denote.Steps.{nothing, peeks, heard, opens, only}
pub use denote.Struct.Owning.{shape, fields, to}
pub use denote.Struct.Struct.{Struct, within, exits_of}
pub use denote.Struct.Tuple.{Tuple}
pub use denote.Triple.Call.{calls_at_last, calls_at}
pub use denote.Triple.Spec.{triple_of, Meets}
pub use denote.Triple.Table.{entered}
pub use denote.Triple.Walked.{says, Stays, stay_dropped, walk_of, ends_at, walked, walk_Meets, Goes-spent_ref, Goes-dropped}
pub use lib.Dec.{T, lit<}
pub use mathlib.Core.List.{[], List, ◌∷◌, ◌++◌}
pub use mathlib.Core.Path.{◌≡◌, refl, sym, subst}
pub use mir.MapTy.{inst_fn}
pub use mir.Raw.{raw as bare}
pub use mir.Syntax.{Dict, impl, tnil, dnil, named, a_type, dcons}
pub use mir.Val.{Val, vptr, vstruct, vcons, vnil, of_list, has_ty, WT}
pub use prog.Memory.{Memory}
pub use prog.Model.{Model}
pub use prog.Routine.{Routine}
pub use prog.Wired.{Wired}
pub use prog.Wp.{Env, WpFn, Tables}
pub use seplogic.Ra.Ura.{Ura}
pub use sound.WpLaws.{WpFn-mono}
pub use types.ByLocal.{alloc_all, pass_all, free_all, look_at, get, through, sets, env, sets_last, get_in, lands_last, lands_as}
pub use types.Kit.{Item, Goal, Seq, Step, step, ‵, ◌$◌, move, drop, fsplit, fsplit3, fjoin, fjoin3, fpick, fpack, rewrite, feq_i, feq_l, ◌⊛◌, some, at_ret, ◌∵◌, !, qed, by, keep, use1, split, join, pick, suffices, frame, done, raw, later, await, group, split3, use0}
pub use types.Logic.{Logic, sem}
pub use types.Part.{whole, sub, look_in, agg}
pub use types.Run.{stop, fld, load, of_opd, first, blocks, exec, returns, enter, addr, no_more, and_then, lit}
