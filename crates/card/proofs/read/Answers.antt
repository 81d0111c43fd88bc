-- Each return is the first refusal in the order of document 01, given that none before it was due.
use Rattle.std.proofs.Common.{rules}
use Rattle.card.proofs.Whole.{read-broken, read-counts, read-atomic, read-bonded, read-ready, read-apart, read_whole}
use Rattle.card.proofs.read.Goals as goal

pub returns-in_default : goal.returns-in_default
returns-in_default c = read-broken c.args.card.now (search rules)

pub returns-in_err-counts_fault : goal.returns-in_err-counts_fault
returns-in_err-counts_fault c =
    read-counts c.args.card.now c.in-Some.fields c.in-Some.ensures _ c.in_err-counts_fault.field-0.0 (search rules) c.in_err-counts_fault.ensures

pub returns-in_err-bare : goal.returns-in_err-bare
returns-in_err-bare c =
    read-atomic c.args.card.now c.in-Some.fields c.in-Some.ensures c.in_ok-counts_fault.ensures _ c.in_err-bare.field-0.0 (search rules) c.in_err-bare.ensures

pub returns-in_err-table : goal.returns-in_err-table
returns-in_err-table c =
    read-bonded c.args.card.now c.in-Some.fields c.in-Some.ensures c.in_ok-counts_fault.ensures c.in_ok-bare.bare c.in_ok-bare.ensures _
    c.in_err-table.field-0.0 (search rules) c.in_err-table.ensures

pub connected-requires : goal.connected-requires
connected-requires c =
    read-ready c.args.card.now c.in-Some.fields c.in-Some.ensures c.in_ok-counts_fault.ensures c.in_ok-bare.bare c.in_ok-bare.ensures _ c.in_ok-table.ensures

pub returns-then-not-connected : goal.returns-then-not-connected
returns-then-not-connected c =
    read-apart c.args.card.now c.in-Some.fields c.in-Some.ensures c.in_ok-counts_fault.ensures c.in_ok-bare.bare c.in_ok-bare.ensures _ c.in_ok-table.ensures _
    c.connected.ensures c.if-not-connected.true

pub returns : goal.returns
returns c =
    read_whole c.args.card.now c.in-Some.fields c.in-Some.ensures c.in_ok-counts_fault.ensures c.in_ok-bare.bare c.in_ok-bare.ensures _ c.in_ok-table.ensures _
    c.connected.ensures c.if-not-connected.false
