-- A mapping in a window. Assumes nothing.
use Rattle.mappings.specs.declared.mapping.Mapping.{Mapping}
use Rattle.inverse.specs.declared.frame.Frame.{Frame}

-- the mapping of a frame
abbrev pub mapping_of : Frame → Mapping
mapping_of f = f.mapping.now
