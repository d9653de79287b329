mod Alternating
