use Rattle.std.proofs.Common.{rules, ◌≡◌, ◌<◌, ℕ, true, true≢false, [], length, not, refl, sym, ap, ◌∙◌, subst}
use Rattle.vx_ops.specs.Ledger.{fresh}
use Rattle.vx_rows.specs.View.{AreColumns}
use Rattle.vx_exchange.specs.Lanes.{kind_of, serves, columns_of, way_to}
use Rattle.vx_exchange_ends.specs.Ship.{Ship}
use Rattle.vx_exchange.specs.Sender.{SenderAt}
use Rattle.vx_exchange_ends.specs.Tasks.{sends_by_ship}
use Rattle.vx_exchange.specs.declared.sender.SenderState.TheVariants.{Open}
use Rattle.vx_exchange.proofs.LaneLists.{serves-some, fresh-ship, fresh-numbered, fresh-open, idle-first, closed-first}
use Rattle.vx_exchange.proofs.Senders.{sender-fresh}
use Rattle.vx_exchange.proofs.Held.{fresh-held}
use Rattle.vx_exchange.proofs.sender.Sender.new.Goals as goal

pub invariant_of-result : goal.invariant_of-result
invariant_of-result c =
    let s : Ship = record { exchange = c.args.exchange; place = c.args.place; consumers = c.args.consumers; types = c.args.types.now; kind = kind_of c.args.deal; size = c.args.size } in
    let lanes = c.in_ok-lanes.lanes.items in
    let f = c.in_ok-lanes.ensures in
    let few : c.args.consumers < 4294967296 = search rules in
    let S : ℕ → Type 0 = λ n. serves c.args.deal n ≡ true in
    let F : ℕ → Type 0 = λ n. n < 4294967296 in
    let T : ℕ → Type 0 = λ n. 0 < n in
    let C : Ship → Type 0 = λ z. AreColumns (length z.types) (columns_of c.args.deal) in
    record {
      numbered = fresh-numbered c.args.deal s lanes (fresh-ship c.args.deal s lanes refl (serves-some c.args.deal c.args.consumers c.requires.served) f) f;
      served = subst S (sym f.count) c.requires.served;
      few = subst F (sym f.count) few;
      turns = subst T (sym f.count) (serves-some c.args.deal c.args.consumers c.requires.served);
      columns = subst C (sym (fresh-ship c.args.deal s lanes refl (serves-some c.args.deal c.args.consumers c.requires.served) f)) c.requires.columns;
      idle = λ e. absurd (true≢false (sym e ∙ fresh-open (way_to s) lanes f.each));
      idle_before = idle-first lanes;
      closed_before = closed-first lanes;
    }

pub returns-clause-stands : goal.returns-clause-stands
returns-clause-stands c = λ goes.
    let s : Ship = record { exchange = c.args.exchange; place = c.args.place; consumers = c.args.consumers; types = c.args.types.now; kind = kind_of c.args.deal; size = c.args.size } in
    let lanes = c.in_ok-lanes.lanes.items in
    let f = c.in_ok-lanes.ensures in
    let P : Ship → Type 0 = λ z. SenderAt goes z Open 0 lanes fresh (λ _. []) in
    subst P (sym (fresh-ship c.args.deal s lanes refl (serves-some c.args.deal c.args.consumers c.requires.served) f)) (sender-fresh goes s lanes (serves-some c.args.deal c.args.consumers c.requires.served) f)

pub returns-clause-post : goal.returns-clause-post
returns-clause-post c =
    let s : Ship = record { exchange = c.args.exchange; place = c.args.place; consumers = c.args.consumers; types = c.args.types.now; kind = kind_of c.args.deal; size = c.args.size } in
    ap sends_by_ship (fresh-ship c.args.deal s c.in_ok-lanes.lanes.items refl (serves-some c.args.deal c.args.consumers c.requires.served) c.in_ok-lanes.ensures)

pub returns-clause-open : goal.returns-clause-open
returns-clause-open c =
    let s : Ship = record { exchange = c.args.exchange; place = c.args.place; consumers = c.args.consumers; types = c.args.types.now; kind = kind_of c.args.deal; size = c.args.size } in
    ap not (fresh-open (way_to s) c.in_ok-lanes.lanes.items c.in_ok-lanes.ensures.each)

pub returns-clause-fresh : goal.returns-clause-fresh
returns-clause-fresh c =
    let s : Ship = record { exchange = c.args.exchange; place = c.args.place; consumers = c.args.consumers; types = c.args.types.now; kind = kind_of c.args.deal; size = c.args.size } in
    fresh-held (way_to s) c.in_ok-lanes.lanes.items c.in_ok-lanes.ensures.each
