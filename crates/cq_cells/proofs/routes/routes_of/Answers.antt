use Rattle.cq_cells.proofs.Terms.{◌≡◌, ℕ, ◌<◌, ◌-◌, List, length, map, ap, ◌∙◌, arith, range_with_len, AllZip-map, Captured, PacketRow, packet_in, route}
use Rattle.rayon.specs.Numbers.{nat_range}
use Rattle.rayon.proofs.ToStd.{nat_range-All}
use Rattle.cq_cells.proofs.Packets.{map-packet_in}
use Rattle.cq_cells.proofs.Stamps.{length-rows_from}
use Rattle.cq_cells.proofs.routes.routes_of.Goals as goal

-- each number below the number of rows is that of a packet
pub collect-requires-clause-ready : goal.collect-requires-clause-ready
collect-requires-clause-ready g c κs within =
    let ps = c.args.capture.now in
    let ends = c.into_par_iter.ensures in
    let many : length c.rows-packets.result.now ≡ length ps =
    ap (λ (rows : List PacketRow). length rows) c.rows-packets.ensures.rows ∙ length-rows_from 24 ps in
    let inside = nat_range-All (λ k. k < length ps) 0 (length c.rows-packets.result.now) (λ k low high.
    omega (arith, many, high)) in
    rw (c.map.ensures.base, c.map.ensures.f, c.with_min_len.ensures.base, ends.0, ends.1) (λ k d lt.
    ((inside k d lt, c.requires), λ y p. tt))

pub returns : goal.returns
returns g c =
    let ps = c.args.capture.now in
    let ends = c.into_par_iter.ensures in
    let n = length c.rows-packets.result.now in
    let many : length c.rows-packets.result.now ≡ length ps =
    ap (λ (rows : List PacketRow). length rows) c.rows-packets.ensures.rows ∙ length-rows_from 24 ps in
    let whole : n - 0 ≡ length ps = omega arith in
    let way = λ (k : ℕ). route c.args.tables.now c.args.input (packet_in ps k).body in
    let given = c.in_ok-routes.ensures in
    let base = rw (c.map.ensures.base, c.with_min_len.ensures.base) at given.1.1 in
    let each = rw c.map.ensures.f at given.1.2 in
    let places = base ∙ (λ i. nat_range (ends.0 i) (ends.1 i)) ∙ ap (range_with_len 0) whole in
    given.2 ∙ AllZip-map way given.1.0 given.0 each ∙ ap (map way) places
    ∙ map-packet_in (λ (p : Captured). route c.args.tables.now c.args.input p.body) ps
