use Rattle.scallopgrid.proofs.Fits.{name-fits, card-fits, canonical-fits, marks-fit, molfile_fits}
use Rattle.answering.proofs.answer.ask.Goals as goal

pub returns-in-Name : goal.returns-in-Name
returns-in-Name c = (rw c.in-Name.is c.name_of_card.ensures, name-fits _ _ _ _ c.name_of_card.ensures)

pub returns-in-Read : goal.returns-in-Read
returns-in-Read c = (rw c.in-Read.is c.card_of_text.ensures, card-fits _ _ _ c.card_of_text.ensures)

pub returns-in-Canon : goal.returns-in-Canon
returns-in-Canon c = (rw c.in-Canon.is c.canonical_card.ensures, canonical-fits _ _ _ _ c.canonical_card.ensures)

pub returns-in-Marks : goal.returns-in-Marks
returns-in-Marks c = (rw c.in-Marks.is c.class_marks.ensures, marks-fit _ _ _ _ c.class_marks.ensures)

pub returns-in-Mol : goal.returns-in-Mol
returns-in-Mol c = (rw c.in-Mol.is c.name_of_molfile.ensures, molfile_fits _ _ _ _ c.name_of_molfile.ensures)
