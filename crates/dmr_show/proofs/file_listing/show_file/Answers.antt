use Rattle.dmr_show.proofs.Shown.{file_listed, file_stripped, no_strip}
use Rattle.dmr_show.specs.Held.{held_by}
use Rattle.dmr_show.proofs.file_listing.show_file.Goals as goal

pub returns-in-Strip-clause-shown : goal.returns-in-Strip-clause-shown
returns-in-Strip-clause-shown g c = file_stripped c.strip_rest.result c.args.form c.args.lines.now.filter _ _ _ _
    c.args.lines.now c.strip_rest.new.lines (λ l. held_by (g.K.Sink.held l.sink.now) l.waiting) c.in-Strip.is c.in-Ok.ensures.head
    c.strip_rest.ensures.whole c.strip_rest.ensures.end c.strip_rest.ensures.shown c.strip_rest.ensures.none
    c.strip_rest.ensures.untouched c.strip_rest.ensures.fault

pub returns-in-Listing : goal.returns-in-Listing
returns-in-Listing g c = record {
  shown = file_listed c.list_rest.result c.args.form c.args.lines.now.filter _ _ _ _ _ _ (no_strip c.args.form c.in-Listing.is)
      c.in-Ok.ensures.head c.list_rest.ensures.whole c.list_rest.ensures.end c.list_rest.ensures.shown c.list_rest.ensures.fault;
  cut = c.list_rest.ensures.cut;
  failed = c.list_rest.ensures.failed;
  same_sink = c.list_rest.ensures.same_sink;
}
