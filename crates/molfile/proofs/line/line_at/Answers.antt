-- One law of LineLaws for each return.
use Rattle.std.proofs.Common.{◌≤◌, ◌+◌, length, sym, ◌∙◌, arith}
use lib.ListN.{drop}
use Rattle.molfile.specs.Cutting.{line_feed}
use Rattle.molfile.proofs.FieldLaws.{rest}
use Rattle.molfile.proofs.LineLaws.{line_last, lines_last, line_bare, line_returned, lines_on}
use Rattle.molfile.proofs.line.line_at.Goals.{else-at-feed-via-then-at-feed+else-file-feed-eq-CR, else-at-feed-via-else-at-feed}
use Rattle.molfile.proofs.line.line_at.Goals as goal

pub returns-then-file-feed : goal.returns-then-file-feed
returns-then-file-feed c =
    let s = c.args.file.now in
    let k : length s ≤ c.args.at + line_feed (drop c.args.at s) = omega (arith, c.line_feed-feed.ensures, c.if-file-feed.true) in
    record { ahead = c.requires; within = omega arith; bytes = rest s c.args.at ∙ sym (line_last s c.args.at c.requires k); lines = lines_last s c.args.at c.requires k }

pub returns-then-file-feed-eq-CR : goal.returns-then-file-feed-eq-CR
returns-then-file-feed-eq-CR c =
    let s = c.args.file.now in
    let e = c.line_feed-feed.ensures in
    let k = c.if-file-feed.false in
    record {
      ahead = omega (arith, e);
      within = omega (arith, k);
      bytes = line_returned s c.args.at c.requires _ e k c.if-at-feed.true c.if-file-feed-eq-CR.true;
      lines = lines_on s c.args.at c.requires _ e k;
    }

pub returns : goal.returns
returns c =
    let s = c.args.file.now in
    let e = c.line_feed-feed.ensures in
    let k = c.if-file-feed.false in
    record {
      ahead = omega (arith, e);
      within = omega (arith, k);
      bytes = line_bare s c.args.at c.requires _ e k
          (λ h x. elim c.else-at-feed.branch [
            | else-at-feed-via-then-at-feed+else-file-feed-eq-CR w ↦ w.if-file-feed-eq-CR.false x
            | else-at-feed-via-else-at-feed w ↦ omega arith
          ]);
      lines = lines_on s c.args.at c.requires _ e k;
    }
