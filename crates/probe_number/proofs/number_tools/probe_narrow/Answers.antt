-- The float of the bits, the tool, the bits again: what the three calls ensure, one after the other.
use Rattle.probe_number.proofs.number_tools.probe_narrow.Goals as goal

pub returns : goal.returns
returns c = cc
