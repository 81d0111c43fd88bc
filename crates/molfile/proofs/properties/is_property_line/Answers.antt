-- One law of PropertyLaws for each return.
use Rattle.std.proofs.Common.{sym, ◌∙◌, ap}
use Rattle.ctfile.specs.Fields.{are_blank}
use Rattle.molfile.proofs.FieldLaws.{rest}
use Rattle.molfile.proofs.PropertyLaws.{property_other, property-no_number, property_none, property_many, property_short, property_entry, property_rest}
use Rattle.molfile.proofs.properties.is_property_line.Goals as goal

pub returns-then-not-lists_entries : goal.returns-then-not-lists_entries
returns-then-not-lists_entries c = property_other c.args.atoms c.args.line.now (sym c.lists_entries.ensures ∙ c.if-not-lists_entries.true)

pub returns-in_default : goal.returns-in_default
returns-in_default c =
    property-no_number c.args.atoms c.args.line.now (sym c.lists_entries.ensures ∙ c.if-not-lists_entries.false) (c.in_default.ensures)

pub returns-then-entries-eq0 : goal.returns-then-entries-eq0
returns-then-entries-eq0 c =
    let e = c.in-Some.ensures in
    property_none c.args.atoms c.args.line.now _ e.0 (sym c.lists_entries.ensures ∙ c.if-not-lists_entries.false) c.if-entries-eq0.true

pub returns-then-entries-gt8 : goal.returns-then-entries-gt8
returns-then-entries-gt8 c =
    let e = c.in-Some.ensures in
    property_many c.args.atoms c.args.line.now _ e.0 (sym c.lists_entries.ensures ∙ c.if-not-lists_entries.false) c.if-entries-eq0.false
    c.if-entries-gt8.true

pub returns-then-line-end : goal.returns-then-line-end
returns-then-line-end c =
    let e = c.in-Some.ensures in
    property_short c.args.atoms c.args.line.now _ e.0 (sym c.lists_entries.ensures ∙ c.if-not-lists_entries.false) c.if-entries-eq0.false
    c.if-entries-gt8.false c.if-line-end.true

pub returns-then-are_entries : goal.returns-then-are_entries
returns-then-are_entries c =
    let e = c.in-Some.ensures in
    c.are_blank.ensures ∙ ap are_blank (rest c.args.line.now _)
    ∙ property_rest c.args.atoms c.args.line.now _ e.0 (sym c.lists_entries.ensures ∙ c.if-not-lists_entries.false) c.if-entries-eq0.false
    c.if-entries-gt8.false c.if-line-end.false (sym c.are_entries.ensures ∙ c.if-are_entries.true)

pub returns-else-are_entries : goal.returns-else-are_entries
returns-else-are_entries c =
    let e = c.in-Some.ensures in
    c.if-are_entries.false
    ∙ property_entry c.args.atoms c.args.line.now _ e.0 (sym c.lists_entries.ensures ∙ c.if-not-lists_entries.false) c.if-entries-eq0.false
    c.if-entries-gt8.false c.if-line-end.false (sym c.are_entries.ensures ∙ c.if-are_entries.false)
