-- What the sessions of a run sent and took is one list of items, for the exchanges and for the told starts.
use Rattle.std.proofs.Common.{◌≡◌, List, length, Option, None, refl, sym, subst, ◌∙◌, arith}
use Rattle.edge_kit.specs.Starters.{Had}
use Rattle.filter_proto.specs.Wires.{SessionSeen}
use Rattle.driver_line.specs.Conversations.{Exchange}
use Rattle.driver_line.specs.Lines.{LineView, Paths, RunsTo}
use Rattle.driver_line.specs.Transcripts.{HasItems, Matches}
use Rattle.driver_line.proofs.Fills.{IsFullSession, full_line, runs_full}
use Rattle.driver_line.proofs.Matching.{items_of}
use Rattle.driver_line.proofs.ToldStarts.{goes_by, same_rest}

pub has_items : (paths : Paths) (v w : LineView) (es : List Exchange) → v.session ≡ None → w.session ≡ None → RunsTo paths v es w → HasItems paths v es w
has_items paths v w es none ended run =
    let f = runs_full paths es v w v.starter.had None (subst (λ (o : Option SessionSeen). IsFullSession o None) (sym none) refl) run in
    let over : f.session ≡ None = subst (λ (o : Option SessionSeen). IsFullSession o f.session) ended f.is_full in
    let a : LineView = full_line v v.starter.had None in
    let b : LineView = full_line w f.now f.session in
    let k = items_of paths (length es) a b es (omega arith) refl over f.holds in
    let same : k.items ≡ f.full = same_rest v.starter.had k.items f.full (sym k.had ∙ f.now_is) in
    record {
      items = f.items;
      full = f.full;
      had = f.grew;
      fills = f.fills;
      starts = goes_by paths a b es f.full refl over f.holds f.now_is;
      matches = subst (λ (hs : List Had). Matches paths es hs) same k.matches;
    }
