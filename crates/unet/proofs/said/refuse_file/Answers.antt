use Rattle.std.proofs.Common.{[], ◌∷◌, codes, refl}
use Rattle.std.proofs.lemmas.Result.{err_from_is_err_and}
use Rattle.unet.proofs.Named.{in_first, in_second, in_third, all_three}
use Rattle.unet.proofs.said.refuse_file.Goals as goal

pub returns-in_err-write_all-clause-early : goal.returns-in_err-write_all-clause-early
returns-in_err-write_all-clause-early g c =
    let p = err_from_is_err_and c.from_residual.result c.from_residual.ensures.1 in
    rw p.1 (in_first _ _ (codes "unet: no file ") c.args.name.now (10 ∷ []) c.in_err-write_all.ensures.err)

pub returns-in_err-write_all-2-clause-early : goal.returns-in_err-write_all-2-clause-early
returns-in_err-write_all-2-clause-early g c =
    let p = err_from_is_err_and c.from_residual-in_err-write_all-2.result c.from_residual-in_err-write_all-2.ensures.1 in
    let name = rw c.as_bytes.ensures.value at c.in_err-write_all-2.ensures.err in
    rw p.1 (in_second _ _ _ (codes "unet: no file ") c.args.name.now (10 ∷ []) c.in_ok-write_all.ensures.ok name)

pub returns-in_err-write_all-3-clause-early : goal.returns-in_err-write_all-3-clause-early
returns-in_err-write_all-3-clause-early g c =
    let p = err_from_is_err_and c.from_residual-in_err-write_all-3.result c.from_residual-in_err-write_all-3.ensures.1 in
    let name = rw c.as_bytes.ensures.value at c.in_ok-write_all-2.ensures.ok in
    rw p.1 (in_third _ _ _ _ (codes "unet: no file ") c.args.name.now (10 ∷ []) c.in_ok-write_all.ensures.ok name c.in_err-write_all-3.ensures.err)

pub returns-clause-done : goal.returns-clause-done
returns-clause-done g c =
    let name = rw c.as_bytes.ensures.value at c.in_ok-write_all-2.ensures.ok in
    record {
      ended = refl;
      written = all_three _ _ _ _ (codes "unet: no file ") c.args.name.now (10 ∷ []) c.in_ok-write_all.ensures.ok name c.in_ok-write_all-3.ensures.ok;
    }
