use Rattle.std.proofs.Common.{sym, ◌∙◌, ◌≡◌, ap, cond, map, ◌++◌, ◌∷◌, []}
use Rattle.std.specs.Str.{bytes_eq}
use Rattle.std.specs.List.{list_any}
use Rattle.mm_tables.proofs.Tables.{list_any-map, map-insert}
use Rattle.mm_tables.proofs.names.Names.insert.Goals as goal

pub returns-clause-ok : goal.returns-clause-ok
returns-clause-ok c =
    let keys = c.self.inside.set.keys in
    let name = c.in_ok-name.name in
    let text = c.args.text.now in
    let same : list_any (λ v. bytes_eq name.items v.items) keys ≡ list_any (bytes_eq text) c.args.self.now =
    sym (list_any-map (λ v. v.items) (bytes_eq name.items) keys)
    ∙ ap (λ t. list_any (bytes_eq t) (map (λ v. v.items) keys)) c.in_ok-name.ensures.items
    ∙ ap (λ l. list_any (bytes_eq text) l) c.self.view_is in
    ap (λ ks. map (λ v. v.items) ks) c.in_ok-insert.ensures.keys
    ∙ map-insert name keys (list_any (λ v. bytes_eq name.items v.items) keys)
    ∙ ap (λ l. cond (list_any (λ v. bytes_eq name.items v.items) keys) l (l ++ name.items ∷ [])) c.self.view_is
    ∙ ap (λ b. cond b c.args.self.now (c.args.self.now ++ name.items ∷ [])) same
    ∙ ap (λ t. cond (list_any (bytes_eq text) c.args.self.now) c.args.self.now (c.args.self.now ++ t ∷ [])) c.in_ok-name.ensures.items
