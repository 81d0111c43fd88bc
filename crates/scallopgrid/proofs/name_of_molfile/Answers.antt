-- What was read of the file is numbered and written: its answer is the file's.
use Rattle.scallopgrid.proofs.Molfiles.{molfile-listed, molfile_run}
use Rattle.scallopgrid.proofs.name_of_molfile.Goals as goal

pub written-requires : goal.written-requires
written-requires c = molfile-listed _ _ c.read.ensures

pub returns : goal.returns
returns c = molfile_run _ _ c.read.ensures _ _ _ _ c.written.ensures _ c.answered.ensures
