-- The copy into the blank array is the padded list.
use Rattle.mappings.specs.Mapping.{mapping}
use Rattle.mappings.proofs.MappingLaws.{laid}
use Rattle.mappings.proofs.mapping.Mapping.new.Goals as goal

pub returns : goal.returns
unfolding mapping
returns c = rw (c.copy_from_slice.ensures.after, laid 256 c.args.xs.now)
