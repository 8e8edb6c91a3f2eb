mod Longs
