-- The second copy comes after the first.
use Rattle.std.proofs.Common.{◌++◌, sym, arith, length-append}
use Rattle.mappings.proofs.MappingLaws.{laid, laid_after, made}
use Rattle.mappings.proofs.mapping.Mapping.of_two.Goals as goal

pub returns : goal.returns
returns c =
    let xs = c.args.xs.now in
    let ys = c.args.ys.now in
    rw (c.copy_from_slice-2.ensures.after, c.copy_from_slice.ensures.after, laid 256 xs)
    (made _ _ (xs ++ ys) _ _ (sym (length-append xs ys)) (laid_after 256 xs ys _ (omega arith)))
